use Rattle.std.proofs.Common.{ℕ, ◌/◌, List, sym, subst}
use Rattle.sv_prim.proofs.Adding.{Progress, begins, goes_on}
use Rattle.sv_prim.proofs.number.put_u32.Goals as goal

pub loop-rest-init : goal.loop-rest-init
loop-rest-init c = begins c.args.v c.args.out.now.items c.requires c.ranges.v.fits

pub loop-rest-preserved : goal.loop-rest-preserved
loop-rest-preserved c =
    subst (λ (now : List ℕ). Progress c.args.v c.args.out.now.items now (c.loop-rest.rest / 128))
    (sym c.push.ensures.items)
    (goes_on c.args.v c.args.out.now.items c.loop-rest.out.items c.loop-rest.rest
    c.loop-rest.invariant c.loop-rest-test.true)
