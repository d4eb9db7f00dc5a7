-- What one section adds to a journal.
use Rattle.std.specs.Prelude.{◌≡◌, ℕ, List, [], ◌∷◌, ◌++◌, Option, Some, None, filter, count_by}
use Rattle.sv_load.specs.declared.load.Command.{Command}
use Rattle.sv_journal.specs.declared.journal.Origin.{Origin}
use Rattle.sv_journal.specs.declared.journal.Origin.TheVariants as origins
use Rattle.sv_journal.specs.declared.journal.Item.{Item}
use Rattle.sv_journal.specs.Items.{is_call_of}
use Rattle.sv_journal.specs.Legal.{is_head, origins_of}

-- the head of a command's group, where a command was found
abbrev pub command_head : Option Command → List Origin
command_head None = []
command_head (Some command) = origins.Command command.byte command.param ∷ []

-- the group of the writer's next step, and the group of a command that was found
pub record IsSection (before after : List Item) (writer : ℕ) (found : Option Command) : Type 0 where
  pub more : List Item
  pub longer : after ≡ before ++ more
  pub heads : filter is_head (origins_of more) ≡ origins.Call writer
      (count_by (λ i. is_call_of writer i.origin) before) ∷ command_head found
