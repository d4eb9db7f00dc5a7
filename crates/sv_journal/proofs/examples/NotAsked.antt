-- Journals that are changed in one place, and are not legal.
use Rattle.std.proofs.Common.{◌≤◌, List, arith}
use Rattle.std.specs.Prelude.{insert}
use Rattle.sv_journal.specs.declared.journal.Origin.TheVariants.{Command}
use Rattle.sv_journal.specs.declared.journal.Outcome.TheVariants.{Handled}
use Rattle.sv_journal.specs.declared.journal.Item.{Item}
use Rattle.sv_journal.specs.Legal.{IsLegal}
use Rattle.sv_journal.proofs.examples.Asked.{items, load}
use Rattle.sv_journal.proofs.examples.Words.{at}

-- more commands than the workload has
abbrev more_commands_items : List Item
more_commands_items = insert items 6 (at 0 0 (Command 9 0) Handled)

more_commands : IsLegal load more_commands_items → ⊥
more_commands l = let h : 2 ≤ 1 = l.commands in omega arith
