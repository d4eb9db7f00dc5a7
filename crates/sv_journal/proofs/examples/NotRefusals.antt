-- Journals that are changed in one place, and are not legal.
use Rattle.std.proofs.Common.{◌≡◌, ◌≤◌, ◌<◌, true, false, List, arith}
use Rattle.std.specs.Prelude.{insert, remove, slice_set, swap}
use Rattle.sv_journal.specs.declared.journal.Kind.TheVariants as kinds
use Rattle.sv_journal.specs.declared.journal.Origin.TheVariants.{Call, Reply, Overflow}
use Rattle.sv_journal.specs.declared.journal.Outcome.TheVariants.{Stored, Refused, Ignored}
use Rattle.sv_journal.specs.declared.journal.Outcome.TheVariants.{Handled}
use Rattle.sv_journal.specs.declared.journal.Item.{Item}
use Rattle.sv_journal.specs.Legal.{IsLegal, AreGroups, origins_of}
use Rattle.sv_journal.proofs.examples.Refusals.{items, load}
use Rattle.sv_journal.proofs.examples.Words.{at, Same}

-- the overflow counts one packet too many
abbrev count_too_high_items : List Item
count_too_high_items = slice_set items 20 (at 13 20 (Overflow 4) Stored)

count_too_high : IsLegal load count_too_high_items → ⊥
count_too_high l = let h : Same 4 3 = l.each.0.1.count in omega arith

-- the first refused packet is not counted
abbrev count_too_low_items : List Item
count_too_low_items = slice_set items 20 (at 13 20 (Overflow 2) Stored)

count_too_low : IsLegal load count_too_low_items → ⊥
count_too_low l = let h : Same 2 3 = l.each.0.1.count in omega arith

-- a packet is refused though there is room
abbrev refused_with_room_items : List Item
refused_with_room_items = slice_set items 14 (at 9 0 (Call 0 9) Refused)

refused_with_room : IsLegal load refused_with_room_items → ⊥
refused_with_room l = let h : Refused ≡ Stored = l.each.0.0.0.0.0.0.0.1.outcome in cc

-- a packet is stored though there is no room
abbrev stored_without_room_items : List Item
stored_without_room_items = slice_set items 15 (at 10 0 (Call 0 10) Stored)

stored_without_room : IsLegal load stored_without_room_items → ⊥
stored_without_room l = let h : Stored ≡ Refused = l.each.0.0.0.0.0.0.1.outcome in cc

-- a packet is stored while refused packets are pending, without an overflow
abbrev no_overflow_items : List Item
no_overflow_items = remove items 20

no_overflow : IsLegal load no_overflow_items → ⊥
no_overflow l = let h : false ≡ true = l.each.1.overflow in cc

-- an overflow with nothing pending
abbrev needless_overflow_items : List Item
needless_overflow_items = insert items 6 (at 1 0 (Overflow 0) Stored)

needless_overflow : IsLegal load needless_overflow_items → ⊥
needless_overflow l = let h : true ≡ false = l.each.0.0.0.0.0.0.0.0.0.0.0.0.0.0.0.1.overflow in cc

-- a packet is not at the sum of the advances
abbrev wrong_moment_items : List Item
wrong_moment_items = slice_set items 8 (at 4 0 (Call 0 3) Stored)

wrong_moment : IsLegal load wrong_moment_items → ⊥
wrong_moment l = let h : Same 4 3 = l.each.0.0.0.0.0.0.0.0.0.0.0.0.0.1.moment in omega arith

-- an overflow is not at the moment of the packet after it
abbrev overflow_early_items : List Item
overflow_early_items = slice_set items 20 (at 12 20 (Overflow 3) Stored)

overflow_early : IsLegal load overflow_early_items → ⊥
overflow_early l = let h : Same 12 13 = l.each.1.overflow_moment in omega arith

-- two calls are not in the order of the script
abbrev out_of_order_items : List Item
out_of_order_items = slice_set (slice_set items 8 (at 3 0 (Call 0 4) Stored)) 9
    (at 4 0 (Call 0 3) Stored)

out_of_order : IsLegal load out_of_order_items → ⊥
out_of_order l = let h : Same 4 3 × (4 < 14) =
    l.each.0.0.0.0.0.0.0.0.0.0.0.0.0.1.step in let e : Same 4 3 = h.0 in omega arith

-- a call of a writer that is not there
abbrev another_writer_items : List Item
another_writer_items = slice_set items 8 (at 3 0 (Call 1 0) Stored)

another_writer : IsLegal load another_writer_items → ⊥
another_writer l = let h : Same 0 0 × (0 < 0) =
    l.each.0.0.0.0.0.0.0.0.0.0.0.0.0.1.step in let e : 0 < 0 = h.1 in omega arith

-- more is freed than was stored
abbrev freed_too_much_items : List Item
freed_too_much_items = slice_set (slice_set items 20 (at 13 62 (Overflow 3) Stored)) 21
    (at 13 62 (Call 0 13) Stored)

freed_too_much : IsLegal load freed_too_much_items → ⊥
freed_too_much l = let h : 62 ≤ 61 = l.each.0.1.freed_stored in omega arith

-- what is freed falls
abbrev freed_falls_items : List Item
freed_falls_items = slice_set items 21 (at 13 19 (Call 0 13) Stored)

freed_falls : IsLegal load freed_falls_items → ⊥
freed_falls l = let h : 20 ≤ 19 = l.each.1.freed_rises in omega arith

-- a packet is ignored while the recorder is on
abbrev ignored_while_on_items : List Item
ignored_while_on_items = slice_set items 8 (at 3 0 (Call 0 3) Ignored)

ignored_while_on : IsLegal load ignored_while_on_items → ⊥
ignored_while_on l = let h : Ignored ≡ Stored = l.each.0.0.0.0.0.0.0.0.0.0.0.0.0.1.outcome in cc

-- a start without its system time
abbrev reply_missing_items : List Item
reply_missing_items = remove items 4

reply_missing_groups : AreGroups load (origins_of reply_missing_items) → ⊥
reply_missing_groups e = cc

reply_missing : IsLegal load reply_missing_items → ⊥
reply_missing l = reply_missing_groups l.groups

-- a start with two answers in the wrong order
abbrev replies_swapped_items : List Item
replies_swapped_items = swap items 4 5

replies_swapped_groups : AreGroups load (origins_of replies_swapped_items) → ⊥
replies_swapped_groups e = cc

replies_swapped : IsLegal load replies_swapped_items → ⊥
replies_swapped l = replies_swapped_groups l.groups

-- a packet is stored directly after a refused overflow, which makes room
abbrev stored_after_refused_overflow_items : List Item
stored_after_refused_overflow_items = slice_set items 17 (at 11 20 (Call 0 11) Stored)

stored_after_refused_overflow : IsLegal load stored_after_refused_overflow_items → ⊥
stored_after_refused_overflow l = let h : Stored ≡ Refused = l.each.0.0.0.0.1.outcome in cc

-- the journal ends with an overflow
abbrev overflow_last_items : List Item
overflow_last_items = remove items 21

overflow_last : IsLegal load overflow_last_items → ⊥
overflow_last l = let h : true ≡ false = l.ends in cc

-- a reply is handled
abbrev reply_handled_items : List Item
reply_handled_items = slice_set items 4 (at 0 0 (Reply kinds.Systime 0) Handled)

reply_handled : IsLegal load reply_handled_items → ⊥
reply_handled l = let h : Handled ≡ Stored = l.each.0.0.0.0.0.0.0.0.0.0.0.0.0.0.0.0.0.1.outcome in
    cc

-- a start is stored
abbrev start_stored_items : List Item
start_stored_items = slice_set items 0 (at 0 0 (Call 0 0) Stored)

start_stored : IsLegal load start_stored_items → ⊥
start_stored l = let h : Stored ≡ Handled =
    l.each.0.0.0.0.0.0.0.0.0.0.0.0.0.0.0.0.0.0.0.0.0.1.outcome in cc
