use Rattle.std.proofs.Common.{length}
use Rattle.sv_workload.proofs.whole_text.Walking.{Walk}
use Rattle.sv_workload.proofs.text.parse.Given as goal

abbrev pub invariant-loop-rest : goal.invariant-loop-rest
invariant-loop-rest l = Walk l.text l.rest l.draft l.number

abbrev pub decreases-loop-rest : goal.decreases-loop-rest
decreases-loop-rest l = length l.rest
