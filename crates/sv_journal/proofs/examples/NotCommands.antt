-- Journals that are changed in one place, and are not legal.
use Rattle.std.proofs.Common.{◌≡◌, ◌<◌, true, false, List, ◌∷◌, ap, arith}
use Rattle.std.specs.Prelude.{take, remove, slice_set, slice_index_or}
use Rattle.sv_journal.specs.declared.journal.Kind.TheVariants as kinds
use Rattle.sv_journal.specs.declared.journal.Origin.TheVariants.{Call, Sync, Reply, Command}
use Rattle.sv_journal.specs.declared.journal.Outcome.TheVariants.{Stored, Handled}
use Rattle.sv_journal.specs.declared.journal.Item.{Item}
use Rattle.sv_journal.specs.Legal.{IsLegal, AreGroups, origins_of}
use Rattle.sv_journal.proofs.examples.Commands.{items, load}
use Rattle.sv_journal.proofs.examples.Words.{at, Same}

-- a command follows a command
abbrev command_twice_items : List Item
command_twice_items = slice_set (slice_set items 9 (at 1 0 (Command 9 0) Handled)) 10
    (at 2 0 (Call 0 2) Stored)

command_twice : IsLegal load command_twice_items → ⊥
command_twice l = let h : (false ≡ true) × (9 < 128 → Same 0 0) =
    l.each.0.1.command in let e : false ≡ true = h.0 in cc

-- a command below 128 has a parameter
abbrev needless_param_items : List Item
needless_param_items = slice_set items 10 (at 2 0 (Command 9 1) Handled)

needless_param : IsLegal load needless_param_items → ⊥
needless_param l = let h : (true ≡ true) × (9 < 128 → Same 1 0) =
    l.each.1.command in let e : Same 1 0 = h.1 (omega arith) in omega arith

-- a module is asked for and not described
abbrev command_unanswered_items : List Item
command_unanswered_items = remove items 8

command_unanswered_groups : AreGroups load (origins_of command_unanswered_items) → ⊥
command_unanswered_groups e = let h : Call 0 2 ≡ Reply kinds.Module 0 =
    ap (λ os. slice_index_or os 8 Sync) e in cc

command_unanswered : IsLegal load command_unanswered_items → ⊥
command_unanswered l = command_unanswered_groups l.groups

-- a command before any call
abbrev command_first_items : List Item
command_first_items = at 0 0 (Command 9 0) Handled ∷ take 7 items

command_first : IsLegal load command_first_items → ⊥
command_first l = let h : (false ≡ true) × (9 < 128 → Same 0 0) =
    l.each.0.0.0.0.0.0.0.1.command in let e : false ≡ true = h.0 in cc
