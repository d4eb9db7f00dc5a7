use Rattle.std.proofs.Common.{◌≡◌, ◌-◌, ◌≤◌, length}
use Rattle.sv_core.proofs.simulation.read_all.Given as goal

abbrev pub invariant-loop : goal.invariant-loop
invariant-loop g l = record {
  same : l.recorder ≡ record l.fn.recorder { freed = l.recorder.freed };
  within : l.recorder.freed ≤ length l.recorder.sent;
}

abbrev pub decreases-loop : goal.decreases-loop
decreases-loop g l = length l.recorder.sent - l.recorder.freed
