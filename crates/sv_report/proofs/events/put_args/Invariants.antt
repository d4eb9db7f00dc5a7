use Rattle.std.proofs.Common.{length}
use Rattle.sv_report.proofs.Arguments.{ArePut, numbers_left}
use Rattle.sv_report.proofs.events.put_args.Given as goal

abbrev pub invariant-loop-left : goal.invariant-loop-left
invariant-loop-left l = ArePut l.fn.out.items l.out.items l.args l.left

abbrev pub decreases-loop-left : goal.decreases-loop-left
decreases-loop-left l = length (numbers_left l.left)
