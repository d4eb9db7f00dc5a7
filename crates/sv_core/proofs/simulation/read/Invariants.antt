use Rattle.std.proofs.Common.{◌≡◌, ◌+◌, ◌≤◌, length}
use Rattle.sv_core.proofs.simulation.read.Given as goal

abbrev pub invariant-loop-left : goal.invariant-loop-left
invariant-loop-left g l = record {
  same : l.recorder ≡ record l.fn.recorder { freed = l.recorder.freed };
  within : l.recorder.freed ≤ length l.recorder.sent;
  left : l.recorder.freed + l.left ≡ l.fn.recorder.freed + l.most;
}

abbrev pub decreases-loop-left : goal.decreases-loop-left
decreases-loop-left g l = l.left
