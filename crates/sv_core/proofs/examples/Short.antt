-- A short word for the examples.
use Rattle.std.proofs.Common.{ℕ, Bool}
use Rattle.sv_core.specs.Turns.{StepTurn}

abbrev pub turn : ℕ → Bool → StepTurn
turn writer command = record { writer = writer; command = command }
