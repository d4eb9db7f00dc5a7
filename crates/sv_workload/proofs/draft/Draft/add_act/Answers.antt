use Rattle.std.proofs.Common.{◌≡◌, ℕ, [], ◌∷◌, ◌++◌, Some, sym, ap, subst, ◌∙◌}
use Rattle.std.proofs.lemmas.Result.{on_ok_weaker}
use Rattle.sv_workload.specs.Settings.{base_told, shift_told}
use Rattle.sv_workload.specs.Meaning.{step_by, base_in, shift_in}
use Rattle.sv_workload.specs.Draft.{Draft, Stands}
use Rattle.sv_workload.proofs.first_check.Passed.{passes}
use Rattle.sv_workload.proofs.lines_told.Growing.{a_writer_before, stands-step}
use Rattle.sv_workload.proofs.lines_told.Rooms.{fit_of, room_for_step, room_for_start, base_is}
use Rattle.sv_workload.proofs.lines_told.Rooms.{shift_is}
use Rattle.sv_workload.proofs.draft.Draft.add_act.Goals as goal

pub step-requires-clause-fit : goal.step-requires-clause-fit
step-requires-clause-fit c =
    let good = c.requires.good in fit_of good.0 c.args.line.now
    (passes good.0 c.args.line.now good.2)

pub add_step-requires-clause-writer : goal.add_step-requires-clause-writer
add_step-requires-clause-writer c =
    let good = c.requires.good in
    a_writer_before c.args.self.now good.0 c.args.line.now good.1
    (passes good.0 c.args.line.now good.2) c.args.word c.requires.keyword

pub add_step-requires-clause-steps : goal.add_step-requires-clause-steps
add_step-requires-clause-steps c =
    let good = c.requires.good in
    room_for_step c.args.self.now good.0 c.args.line.now good.1
    (passes good.0 c.args.line.now good.2) c.args.word c.requires.keyword

pub add_step-requires-clause-starts : goal.add_step-requires-clause-starts
add_step-requires-clause-starts c = λ starts.
    let good = c.requires.good in
    room_for_start c.args.self.now good.0 c.args.line.now good.1
    (passes good.0 c.args.line.now good.2) c.args.word c.in_ok-step.step c.base-base.result
    c.shift-shift.result c.requires.keyword c.in_ok-step.ensures.ok starts

pub returns : goal.returns
returns c =
    let line = c.args.line.now in
    let old = c.args.self.now in
    on_ok_weaker c.add_step.result (λ now lines stands none.
    let passed = passes lines line none in
    let base : c.base-base.result ≡ base_in lines = c.base-base.ensures ∙ ap
    (λ (d : Draft). base_told d.settings) c.self.view_is ∙ base_is old lines line stands passed
    in
    let shift : c.shift-shift.result ≡ shift_in lines = c.shift-shift.ensures ∙ ap
    (λ (d : Draft). shift_told d.settings) c.self.view_is ∙ shift_is old lines line stands
    passed in
    let made : Some c.in_ok-step.step ≡ step_by line.keyword (base_in lines) (shift_in lines) line =
    c.in_ok-step.ensures.ok ∙ ap (λ (b : ℕ). step_by line.keyword b c.shift-shift.result line) base
    ∙ ap (λ (s : ℕ). step_by line.keyword (base_in lines) s line) shift in
    subst (λ (d : Draft). Stands d (lines ++ line ∷ [])) (sym now)
    (stands-step old lines line stands passed c.args.word c.in_ok-step.step c.requires.keyword
    made)) c.add_step.ensures
