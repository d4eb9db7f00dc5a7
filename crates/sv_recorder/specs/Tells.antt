-- The callbacks that a recorder keeps.
use Rattle.std.specs.Prelude.{◌≡◌, ℕ, List}
use Rattle.sv_load.specs.Load.{Load}

-- the callbacks answer as they should, and that for the lines and the clock of this workload
pub record IsOver {P : Type 0} (kept : P → Type 0) (lines : P → List (List ℕ)) (clock : P → ℕ)
    (load : Load) (desc : P) : Type 0 where
  pub kept_is : kept desc
  pub lines_are : lines desc ≡ load.lines
  pub clock_is : clock desc ≡ load.clock
