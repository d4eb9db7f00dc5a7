use Rattle.std.proofs.Common.{◌≡◌, ◌<◌, ◌∙◌, ◌+◌, arith, refl, sym, ap, length, subst}
use Rattle.std.specs.Prelude.{slice_index_or, slice_set, Some}
use Rattle.sv_load.specs.declared.load.Step.{Step}
use Rattle.sv_load.specs.Load.{step_of}
use Rattle.sv_load.specs.Need.{IsStepAct}
use Rattle.sv_recorder.specs.Tells.{IsOver}
use Rattle.sv_recorder.proofs.steps.Recorders as recorders
use Rattle.sv_recorder.proofs.steps.Commands as commands
use Rattle.sv_recorder.proofs.steps.Sections as sections
use Rattle.sv_recorder.proofs.steps.Views as views
use Rattle.sv_recorder.proofs.recorder.Recorder.section.Goals as goal

pub bounds-steps-place : goal.bounds-steps-place
bounds-steps-place g c =
    let old = c.self.inside.book in
    let is = sections.is_shown g.D.DownReader old c.self.inside.inbox c.args.self.now
    c.self.view_is in
    let there = views.shown_writer old c.args.writer c.args.self.now is c.requires.writer in
    let most = views.within_script old c.self.inside.places c.args.writer _ c.self.invariant.0 there
    refl in
    omega (arith, most, ap length c.steps-steps.ensures.told, c.if-place-steps.false)

pub advance-requires : goal.advance-requires
advance-requires g c =
    let old = c.self.inside.book in
    let is = sections.is_shown g.D.DownReader old c.self.inside.inbox c.args.self.now
    c.self.view_is in
    let there = views.shown_writer old c.args.writer c.args.self.now is c.requires.writer in
    let at = views.at_step old c.self.inside.places c.args.writer _ c.steps-steps.result.now
    c.index-steps-place.result c.self.invariant.0 there refl c.steps-steps.ensures.told
    c.if-place-steps.false c.index-steps-place.is in
    omega (
      arith,
      recorders.moment_fits old c.self.inside.places c.args.writer _
          c.index-steps-place.result at,
    )

pub take-answer-requires-clause-step : goal.take-answer-requires-clause-step
take-answer-requires-clause-step g c =
    let old = c.self.inside.book in
    let is = sections.is_shown g.D.DownReader old c.self.inside.inbox c.args.self.now
    c.self.view_is in
    let there = views.shown_writer old c.args.writer c.args.self.now is c.requires.writer in
    let at = views.at_step old c.self.inside.places c.args.writer _ c.steps-steps.result.now
    c.index-steps-place.result c.self.invariant.0 there refl c.steps-steps.ensures.told
    c.if-place-steps.false c.index-steps-place.is in
    subst (λ l. step_of l c.args.writer (slice_index_or c.self.inside.places c.args.writer 0)
    ≡ Some c.index-steps-place.result) (sym c.advance.ensures.load) at.step_is

pub take-answer-requires-clause-act : goal.take-answer-requires-clause-act
take-answer-requires-clause-act g c =
    let old = c.self.inside.book in
    let is = sections.is_shown g.D.DownReader old c.self.inside.inbox c.args.self.now
    c.self.view_is in
    let there = views.shown_writer old c.args.writer c.args.self.now is c.requires.writer in
    let most = views.within_script old c.self.inside.places c.args.writer _ c.self.invariant.0 there
    refl in
    let below : slice_index_or c.self.inside.places c.args.writer 0 < length
    c.steps-steps.result.now =
    omega (arith, most, ap length c.steps-steps.ensures.told, c.if-place-steps.false) in
    subst (λ (s : Step). IsStepAct s.act) (sym c.index-steps-place.is)
    (c.steps-steps.ensures.acts _ c.index-steps-place.result below)

pub take-answer-requires-clause-ready : goal.take-answer-requires-clause-ready
take-answer-requires-clause-ready g c =
    let old = c.self.inside.book in
    let is = sections.is_shown g.D.DownReader old c.self.inside.inbox c.args.self.now
    c.self.view_is in
    let there = views.shown_writer old c.args.writer c.args.self.now is c.requires.writer in
    let at = views.at_step old c.self.inside.places c.args.writer _ c.steps-steps.result.now
    c.index-steps-place.result c.self.invariant.0 there refl c.steps-steps.ensures.told
    c.if-place-steps.false c.index-steps-place.is in
    recorders.ready_at old c.advance.new.self c.self.inside.places c.args.writer _
    c.index-steps-place.result at c.advance.ensures

pub overflow_add-self : goal.overflow_add-self
overflow_add-self g c =
    let old = c.self.inside.book in
    let is = sections.is_shown g.D.DownReader old c.self.inside.inbox c.args.self.now
    c.self.view_is in
    let there = views.shown_writer old c.args.writer c.args.self.now is c.requires.writer in
    let most = views.within_script old c.self.inside.places c.args.writer _ c.self.invariant.0 there
    refl in
    let fits = views.script_fits old c.self.inside.places c.args.writer c.steps-steps.result.now
    c.self.invariant.0 there c.steps-steps.ensures.told in
    omega (arith, most, fits, ap length c.steps-steps.ensures.told, c.if-place-steps.false)

pub obey-requires-clause-ready : goal.obey-requires-clause-ready
obey-requires-clause-ready g c =
    let old = c.self.inside.book in
    let is = sections.is_shown g.D.DownReader old c.self.inside.inbox c.args.self.now
    c.self.view_is in
    let there = views.shown_writer old c.args.writer c.args.self.now is c.requires.writer in
    let at = views.at_step old c.self.inside.places c.args.writer _ c.steps-steps.result.now
    c.index-steps-place.result c.self.invariant.0 there refl c.steps-steps.ensures.told
    c.if-place-steps.false c.index-steps-place.is in
    let mid = c.advance.new.self in
    let taken = c.take-answer.new.self in
    let place = slice_index_or c.self.inside.places c.args.writer 0 in
    let kept = recorders.taken old mid taken c.self.inside.places c.args.writer _
    c.index-steps-place.result at c.advance.ensures c.take-answer.ensures.kept
    c.take-answer.ensures.goes in
    let most = ap length c.commands.ensures.told in
    let count = c.self.invariant.1.count_is in
    let here = sections.found_here g.D.DownReader old mid taken c.self.inside.inbox
    c.next-found.new.self c.args.writer place _ _ _ c.next-found.result c.next-found.ensures.asks
    most count c.advance.ensures.journal c.advance.ensures.load c.take-answer.ensures.goes in
    sections.found_ready taken (slice_set c.self.inside.places c.args.writer (place + 1))
    c.next-found.result kept here

pub invariant_of-self : goal.invariant_of-self
invariant_of-self g c =
    let old = c.self.inside.book in
    let is = sections.is_shown g.D.DownReader old c.self.inside.inbox c.args.self.now
    c.self.view_is in
    let there = views.shown_writer old c.args.writer c.args.self.now is c.requires.writer in
    let at = views.at_step old c.self.inside.places c.args.writer _ c.steps-steps.result.now
    c.index-steps-place.result c.self.invariant.0 there refl c.steps-steps.ensures.told
    c.if-place-steps.false c.index-steps-place.is in
    let mid = c.advance.new.self in
    let taken = c.take-answer.new.self in
    let place = slice_index_or c.self.inside.places c.args.writer 0 in
    let kept = recorders.taken old mid taken c.self.inside.places c.args.writer _
    c.index-steps-place.result at c.advance.ensures c.take-answer.ensures.kept
    c.take-answer.ensures.goes in
    let most = ap length c.commands.ensures.told in
    let count = c.self.invariant.1.count_is in
    let here = sections.found_here g.D.DownReader old mid taken c.self.inside.inbox
    c.next-found.new.self c.args.writer place _ _ _ c.next-found.result c.next-found.ensures.asks
    most count c.advance.ensures.journal c.advance.ensures.load c.take-answer.ensures.goes in
    let new = c.obey.new.self in
    let asked = sections.asked_of g.D.DownReader old new c.self.inside.inbox
    c.next-found.new.self _ c.next-found.result c.next-found.ensures.asks most count in
    let load = c.obey.ensures.goes.load ∙ c.take-answer.ensures.goes.load
    ∙ c.advance.ensures.load in (
      commands.obeyed taken new (slice_set c.self.inside.places c.args.writer (place + 1))
          c.next-found.result kept here c.obey.ensures,
      sections.inbox_kept g.D.DownReader old mid taken new c.self.inside.inbox
          c.next-found.new.self c.args.writer place _ _ c.next-found.result c.self.invariant.1
          c.advance.ensures.journal c.take-answer.ensures.goes c.obey.ensures asked
          c.next-found.ensures.count c.next-found.ensures.waits,
      subst (λ l. IsOver g.P.Describes.kept g.P.Describes.lines g.P.Describes.clock l
          c.self.inside.desc) (sym load) c.self.invariant.2,
      sections.asks_front g.D.DownReader c.self.inside.inbox c.next-found.new.self _
          c.next-found.result c.next-found.ensures.asks c.self.invariant.3,
    )

pub returns-clause-section : goal.returns-clause-section
returns-clause-section g c =
    let old = c.self.inside.book in
    let is = sections.is_shown g.D.DownReader old c.self.inside.inbox c.args.self.now
    c.self.view_is in
    let there = views.shown_writer old c.args.writer c.args.self.now is c.requires.writer in
    let at = views.at_step old c.self.inside.places c.args.writer _ c.steps-steps.result.now
    c.index-steps-place.result c.self.invariant.0 there refl c.steps-steps.ensures.told
    c.if-place-steps.false c.index-steps-place.is in
    sections.section_shown g.D.DownReader old c.advance.new.self c.take-answer.new.self
    c.obey.new.self c.self.inside.inbox c.next-found.new.self c.self.inside.places c.args.writer
    _ _ c.index-steps-place.result c.next-found.result c.args.self.now c.self.view_is at
    c.advance.ensures c.take-answer.ensures.goes c.obey.ensures c.next-found.ensures.asks
    (ap length c.commands.ensures.told) c.self.invariant.1.count_is

pub returns-clause-answered : goal.returns-clause-answered
returns-clause-answered g c =
    let old = c.self.inside.book in
    let is = sections.is_shown g.D.DownReader old c.self.inside.inbox c.args.self.now
    c.self.view_is in
    let there = views.shown_writer old c.args.writer c.args.self.now is c.requires.writer in
    let at = views.at_step old c.self.inside.places c.args.writer _ c.steps-steps.result.now
    c.index-steps-place.result c.self.invariant.0 there refl c.steps-steps.ensures.told
    c.if-place-steps.false c.index-steps-place.is in
    sections.answer_stays c.args.self.now.load c.args.self.now.items c.take-answer.new.self
    c.obey.new.self c.next-found.result _ c.take-answer.result
    (views.answered_shown old c.advance.new.self c.take-answer.new.self c.self.inside.places
    c.args.writer _ c.index-steps-place.result c.take-answer.result c.args.self.now is at
    c.advance.ensures c.take-answer.ensures.answered) c.obey.ensures
