-- What may come next in a journal.
use Rattle.std.specs.Prelude.{◌≡◌, ◌<◌, true, List, length, count_by}
use Rattle.sv_load.specs.Load.{Load}
use Rattle.sv_journal.specs.declared.journal.Origin.{Origin}
use Rattle.sv_journal.specs.declared.journal.Item.{Item}
use Rattle.sv_journal.specs.Items.{latest_first, is_command}
use Rattle.sv_journal.specs.Legal.{IsNextStep}

-- a call is of its writer's next step, and a command comes where not all are there
pub record MayCome (load : Load) (items : List Item) (next : Origin) : Type 0 where
  pub step : IsNextStep load (latest_first items) next
  pub command : is_command next ≡ true → count_by (λ i. is_command i.origin) items < length
      load.commands
