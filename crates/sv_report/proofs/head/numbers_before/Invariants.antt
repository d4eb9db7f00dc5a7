use Rattle.std.proofs.Common.{◌≡◌, ◌+◌, ◌*◌, ◌≤◌, ◌++◌, flat_map, length, drop}
use Rattle.sv_report.specs.Words.{spaced_number}
use Rattle.sv_report.proofs.head.numbers_before.Given as goal

abbrev pub invariant-loop-left : goal.invariant-loop-left
invariant-loop-left l = record {
  within : l.left ≤ length l.numbers;
  before : l.start ≤ l.end;
  room : l.end + 11 * l.left ≤ l.start + 11 * length l.numbers;
  written : drop l.start l.line
      ≡ flat_map spaced_number (drop l.left l.numbers) ++ drop l.end l.fn.line;
}

abbrev pub decreases-loop-left : goal.decreases-loop-left
decreases-loop-left l = l.left
