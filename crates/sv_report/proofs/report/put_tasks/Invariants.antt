use Rattle.std.proofs.Common.{◌≡◌, ◌++◌, flat_map, take}
use Rattle.sv_report.specs.ReportText.{task_line}
use Rattle.sv_report.proofs.report.put_tasks.Given as goal

abbrev pub invariant-loop-line : goal.invariant-loop-line
invariant-loop-line l =
    l.out.items ≡ l.fn.out.items ++ flat_map task_line (take l.line-index l.lines)
