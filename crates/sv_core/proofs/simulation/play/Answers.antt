use Rattle.std.proofs.Common.{◌≡◌, subst, sym, arith}
use Rattle.sv_core.specs.Played.{played_rounds}
use Rattle.sv_core.proofs.in_order.Rounds.{AreEnough}
use Rattle.sv_core.proofs.in_order.Playing.{are-enough, played-read_all, played-all}
use Rattle.sv_core.proofs.simulation.play.Goals as goal

pub returns-clause-simulated : goal.returns-clause-simulated
returns-clause-simulated g c =
    let load = c.args.load.now in
    let rounds = c.rounds_left-rounds.ensures in
    let all : c.loop.counter ≡ c.rounds_left-rounds.result =
    omega (arith, c.loop-test.false, c.loop.auto.counter-end) in
    let are : AreEnough load c.rounds_left-rounds.result =
    are-enough load c.send_left.new.recorder c.rounds_left-rounds.result
    c.send_left.ensures.played rounds.enough rounds.within in
    played-all load c.read_all.new.recorder c.loop.counter (subst (AreEnough load) (sym all) are)
    (played-read_all load (played_rounds load c.loop.counter) c.loop.recorder
    c.read_all.new.recorder c.loop.invariant c.read_all.ensures)
