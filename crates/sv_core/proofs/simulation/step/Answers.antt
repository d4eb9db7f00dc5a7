use Rattle.std.proofs.Common.{refl, sym}
use Rattle.std.proofs.lemmas.Bool.{true≢false}
use Rattle.sv_core.proofs.in_order.Playing.{possible-left, possible-through, played-section}
use Rattle.sv_core.proofs.in_order.Playing.{played-through}
use Rattle.sv_core.proofs.simulation.step.Goals as goal

pub returns-in-Some-clause-possible : goal.returns-in-Some-clause-possible
returns-in-Some-clause-possible g c = λ load turns played.
    sym
    (possible-left load turns c.args.recorder.now c.args.writer played
    (λ e. true≢false (c.in-Some.ensures.through.1 e)))

pub returns-in-Some-clause-played : goal.returns-in-Some-clause-played
returns-in-Some-clause-played g c = λ load turns played.
    let section = c.in-Some.ensures.section in
    played-section load turns c.args.recorder.now c.section.new.self c.args.writer section.0 played
    (λ e. true≢false (c.in-Some.ensures.through.1 e)) c.section.ensures.same.0 c.keeps.ensures.legal
    c.keeps.ensures.stream section.1 section.2 c.section.ensures.same.5 c.keeps.ensures.front
    c.keeps.ensures.waits section.3

pub returns-in-None-clause-possible : goal.returns-in-None-clause-possible
returns-in-None-clause-possible g c = λ load turns played.
    sym
    (possible-through load turns c.args.recorder.now c.args.writer played
    (c.in-None.ensures.through.0 refl))

pub returns-in-None-clause-played : goal.returns-in-None-clause-played
returns-in-None-clause-played g c = λ load turns played.
    played-through load turns c.args.recorder.now c.section.new.self c.args.writer played
    (c.in-None.ensures.through.0 refl) c.in-None.ensures.unchanged
