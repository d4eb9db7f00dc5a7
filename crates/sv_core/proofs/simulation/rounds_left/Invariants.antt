use Rattle.std.proofs.Common.{ℕ, ◌+◌, ◌<◌, ◌≤◌, length}
use Rattle.std.specs.Prelude.{count_by}
use Rattle.sv_load.specs.Load.{script_of}
use Rattle.sv_load.specs.Need.{steps_in}
use Rattle.sv_journal.specs.Items.{is_call_of}
use Rattle.sv_core.proofs.simulation.rounds_left.Given as goal

abbrev pub invariant-loop-writer : goal.invariant-loop-writer
invariant-loop-writer g l = record {
  enough : (writer : ℕ) → writer < l.writer →
      length (script_of l.load writer)
      ≤ count_by (λ i. is_call_of writer i.origin) l.recorder.items + l.most;
  within : l.most ≤ steps_in l.load;
}
