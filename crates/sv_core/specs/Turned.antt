-- Turns that are gathered from a journal, one item after another.
use Rattle.std.specs.Prelude.{◌+◌, ◌^◌, ◌<◌, ◌≤◌, false, true, List, [], ◌∷◌, ◌++◌, IsTrue}
use Rattle.sv_journal.specs.declared.journal.Origin.{Origin}
use Rattle.sv_journal.specs.declared.journal.Origin.TheVariants.{Call, Command}
use Rattle.sv_journal.specs.declared.journal.Item.{Item}
use Rattle.sv_journal.specs.Items.{is_written}
use Rattle.sv_journal.specs.Frees.{written_freed}
use Rattle.sv_core.specs.Turns.{StepTurn, Turns}
use Rattle.sv_core.specs.declared.turns.Turns.{Turns as KeptTurns}

-- the turns that Rust lists hold
abbrev pub turns_held : KeptTurns → Turns
turns_held turns = record { steps = turns.steps.items; frees = turns.frees.items }

-- the last turn has a command
abbrev pub asked_last : List StepTurn → List StepTurn
asked_last [] = []
asked_last (t ∷ []) = record t { command = true } ∷ []
asked_last (t ∷ u ∷ ts) = t ∷ asked_last (u ∷ ts)

-- the turns with an item of this origin more
abbrev pub turns_with : Origin → List StepTurn → List StepTurn
turns_with (Call writer step) turns = turns ++ record { writer = writer; command = false } ∷ []
turns_with (Command byte param) turns = asked_last turns
turns_with other turns = turns

-- from one written item to the next freed does not fall, and rises by less than 2 ^ 32
abbrev pub RisesLittle : List Item → Item → Type 0
RisesLittle earlier item = IsTrue (is_written earlier item) →
    (written_freed earlier ≤ item.freed) × (item.freed < written_freed earlier + 2 ^ 32)
