-- Journals that are changed in one place, and are not legal.
use Rattle.std.proofs.Common.{◌≡◌, true, false, List}
use Rattle.std.specs.Prelude.{insert, remove, slice_set, swap}
use Rattle.sv_journal.specs.declared.journal.Origin.TheVariants.{Call, Overflow}
use Rattle.sv_journal.specs.declared.journal.Outcome.TheVariants.{Refused, Ignored}
use Rattle.sv_journal.specs.declared.journal.Item.{Item}
use Rattle.sv_journal.specs.Legal.{IsLegal, AreGroups, origins_of}
use Rattle.sv_journal.proofs.examples.Restarted.{items, load}
use Rattle.sv_journal.proofs.examples.Words.{at}

-- a packet is refused while the recorder is off
abbrev written_while_off_items : List Item
written_while_off_items = slice_set items 15 (at 9 0 (Call 0 9) Refused)

written_while_off : IsLegal load written_while_off_items → ⊥
written_while_off l = let h : Refused ≡ Ignored = l.each.0.0.0.0.0.0.0.1.outcome in cc

-- an overflow stands before a sync
abbrev overflow_before_sync_items : List Item
overflow_before_sync_items = swap items 17 18

overflow_before_sync : IsLegal load overflow_before_sync_items → ⊥
overflow_before_sync l = let h : true ≡ false = l.each.0.0.0.0.1.overflow in cc

-- an overflow stands before an ignored packet
abbrev overflow_while_off_items : List Item
overflow_while_off_items = insert items 15 (at 9 0 (Overflow 1) Ignored)

overflow_while_off : IsLegal load overflow_while_off_items → ⊥
overflow_while_off l = let h : true ≡ false = l.each.0.0.0.0.0.0.0.1.overflow in cc

-- a stop without its TRACE_STOP
abbrev stop_unanswered_items : List Item
stop_unanswered_items = remove items 14

stop_unanswered_groups : AreGroups load (origins_of stop_unanswered_items) → ⊥
stop_unanswered_groups e = cc

stop_unanswered : IsLegal load stop_unanswered_items → ⊥
stop_unanswered l = stop_unanswered_groups l.groups

-- a start without its sync
abbrev sync_missing_items : List Item
sync_missing_items = remove items 17

sync_missing_groups : AreGroups load (origins_of sync_missing_items) → ⊥
sync_missing_groups e = cc

sync_missing : IsLegal load sync_missing_items → ⊥
sync_missing l = sync_missing_groups l.groups
