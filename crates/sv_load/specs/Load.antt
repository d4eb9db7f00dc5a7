-- A workload as contracts see it: the settings, what there is to describe, and what each writer and
-- the host do.
use Rattle.std.specs.Prelude.{ℕ, ◌^◌, Bool, true, false, List, [], Option, slice_get}
use Rattle.std.specs.Prelude.{slice_index_or}
use Rattle.std.specs.Option.{option_map, option_map_or}
use Rattle.sv_desc.specs.Modules.{ModuleRow}
use Rattle.sv_load.specs.declared.load.Task.{Task}
use Rattle.sv_load.specs.declared.load.Command.{Command}
use Rattle.sv_load.specs.declared.load.Act.{Act}
use Rattle.sv_load.specs.declared.load.Step.{Step}
use Rattle.sv_load.specs.declared.load.Action.{Action}

pub record Load : Type 0 where
  pub ring : ℕ
  pub clock : ℕ
  pub cpu : ℕ
  pub base : ℕ
  pub shift : ℕ
  pub timed : Bool
  pub lines : List (List ℕ)
  pub tasks : List Task
  pub modules : List ModuleRow
  pub commands : List Command
  pub scripts : List (List Step)
  -- whether there is a schedule, be it empty
  pub scheduled : Bool
  pub schedule : List Action

-- the steps of a writer, none where there is no such writer
abbrev pub script_of : Load → ℕ → List Step
script_of load writer = slice_index_or load.scripts writer []

-- the step of a writer, where there is one
abbrev pub step_of : Load → ℕ → ℕ → Option Step
step_of load writer step = slice_get (script_of load writer) step

-- what a step does
abbrev pub act_of : Load → ℕ → ℕ → Option Act
act_of load writer step = option_map (λ s. s.act) (step_of load writer step)

-- the ticks that pass before a step
abbrev pub advance_of : Load → ℕ → ℕ → ℕ
advance_of load writer step = option_map_or (λ s. s.advance) (step_of load writer step) 0

-- the counter begins again after so many ticks
abbrev pub period : Load → ℕ
period load = 2 ^ 32
