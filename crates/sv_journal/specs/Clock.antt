-- The time of a journal: the ticks of its calls so far.
use Rattle.std.specs.Prelude.{ℕ, List, sum_by}
use Rattle.sv_load.specs.Load.{Load}
use Rattle.sv_journal.specs.declared.journal.Item.{Item}
use Rattle.sv_journal.specs.Items.{latest_first}
use Rattle.sv_journal.specs.Legal.{step_ticks}

abbrev pub clock_of : Load → List Item → ℕ
clock_of load items = sum_by (λ i. step_ticks load i.origin) (latest_first items)
