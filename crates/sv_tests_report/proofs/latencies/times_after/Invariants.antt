use Rattle.std.proofs.Common.{◌≡◌, ◌≤◌}
use Rattle.sv_tests_report.proofs.latencies.times_after.Given as goal

abbrev pub invariant-loop-time : goal.invariant-loop-time
invariant-loop-time l = record {
  last : l.latency.last ≡ l.last;
  applied : l.latency.applied ≡ l.count;
  few : l.count ≤ 16;
}
