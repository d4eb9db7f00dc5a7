use Rattle.sv_prim.proofs.Adding.{Progress}
use Rattle.sv_prim.proofs.number.put_u32.Given as goal

abbrev pub invariant-loop-rest : goal.invariant-loop-rest
invariant-loop-rest l = Progress l.fn.v l.fn.out.items l.out.items l.rest

abbrev pub decreases-loop-rest : goal.decreases-loop-rest
decreases-loop-rest l = l.rest
