use Rattle.std.proofs.Common.{◌≡◌}
use Rattle.sv_tests_record.proofs.recorder.run_with.Given as goal

abbrev pub invariant-loop-count : goal.invariant-loop-count
invariant-loop-count g l = l.recorder.load ≡ l.load
