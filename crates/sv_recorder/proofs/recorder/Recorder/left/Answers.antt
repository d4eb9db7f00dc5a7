use Rattle.std.proofs.Common.{length, ap, arith, refl}
use Rattle.sv_recorder.proofs.steps.Sections as sections
use Rattle.sv_recorder.proofs.steps.Views as views
use Rattle.sv_recorder.proofs.recorder.Recorder.left.Goals as goal

pub overflow_cast-result : goal.overflow_cast-result
overflow_cast-result g c =
    let old = c.self.inside.book in
    let is = sections.is_shown g.D.DownReader old c.self.inside.inbox c.args.self.now
    c.self.view_is in
    let there = views.shown_writer old c.args.writer c.args.self.now is c.requires in
    let short = views.script_fits old c.self.inside.places c.args.writer c.steps.result.now
    c.self.invariant.0 there c.steps.ensures.told in
    omega (arith, short)

pub overflow_sub-result : goal.overflow_sub-result
overflow_sub-result g c =
    let old = c.self.inside.book in
    let is = sections.is_shown g.D.DownReader old c.self.inside.inbox c.args.self.now
    c.self.view_is in
    let there = views.shown_writer old c.args.writer c.args.self.now is c.requires in
    let most = views.within_script old c.self.inside.places c.args.writer _ c.self.invariant.0 there
    refl in
    omega (arith, most, ap length c.steps.ensures.told)

pub returns : goal.returns
returns g c =
    let old = c.self.inside.book in
    let is = sections.is_shown g.D.DownReader old c.self.inside.inbox c.args.self.now
    c.self.view_is in
    let there = views.shown_writer old c.args.writer c.args.self.now is c.requires in
    views.left_shown old c.self.inside.places c.args.writer c.steps.result.now c.args.self.now
    is c.self.invariant.0 there c.steps.ensures.told
