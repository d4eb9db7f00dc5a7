use Rattle.std.proofs.Common.{false, suc, ◌≡◌, ◌++◌, replicate, sym, ◌∙◌, subst, arith, add-one}
use Rattle.sv_core.specs.Order.{Takes_step, is_possible, possible}
use Rattle.sv_core.specs.Played.{IsPlayed}
use Rattle.sv_core.proofs.in_order.OrderParts.{possible-same, step_asked, steps_through}
use Rattle.sv_core.proofs.simulation.steps.Goals as goal

pub returns-then-not-step-clause-played : goal.returns-then-not-step-clause-played
returns-then-not-step-clause-played g c = λ load asked played.
    let writer = c.args.writer in
    let so_far = replicate c.loop.counter (Takes_step writer) ++ asked in
    let before = c.loop.invariant.played load asked played in
    let through : is_possible load so_far (Takes_step writer) ≡ false =
    sym (possible-same load so_far writer)
    ∙ (sym (c.step.ensures.possible load (possible load so_far) before) ∙ c.if-not-step.true) in
    subst (λ ts. IsPlayed load ts c.step.new.recorder)
    (step_asked load so_far writer
    ∙ (steps_through load asked writer c.loop.counter (suc c.loop.counter) through (omega arith)
    ∙ sym
    (steps_through load asked writer c.loop.counter c.args.count through
    (omega (arith, c.loop-test.true)))))
    (c.step.ensures.played load (possible load so_far) before)

pub loop-preserved : goal.loop-preserved
loop-preserved g c = record {
  same = c.step.ensures.load ∙ c.loop.invariant.same;
  played = λ load asked played.
      let t = Takes_step c.args.writer in
      let so_far = replicate c.loop.counter t ++ asked in
      let before = c.loop.invariant.played load asked played in
      subst (λ n. IsPlayed load (possible load (replicate n t ++ asked)) c.step.new.recorder)
      (sym (add-one c.loop.counter))
      (subst (λ ts. IsPlayed load ts c.step.new.recorder)
      (step_asked load so_far c.args.writer)
      (c.step.ensures.played load (possible load so_far) before));
}
