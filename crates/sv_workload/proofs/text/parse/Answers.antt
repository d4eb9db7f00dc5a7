use Rattle.std.proofs.Common.{◌≡◌, ℕ, ◌+◌, Option, Some, Ok, sym, ap, ◌∙◌}
use Rattle.std.specs.Prelude.{option_map}
use Rattle.std.proofs.lemmas.Bool.{eqb-true}
use Rattle.std.proofs.lemmas.List.{nil_from_length}
use Rattle.sv_workload.specs.declared.fault.LineFault.{LineFault}
use Rattle.sv_workload.specs.Reason.{reason_of}
use Rattle.sv_workload.specs.Grammar.{fault_at, first_fault}
use Rattle.sv_workload.proofs.whole_text.Walking.{walk_goes_on, walk_stops, walk_ends}
use Rattle.sv_workload.proofs.text.parse.Goals as goal

pub returns-in-Some-clause-line : goal.returns-in-Some-clause-line
returns-in-Some-clause-line c = λ line reason is.
    let walk = c.loop-rest.invariant in
    let here : fault_at walk.before c.first_line.result.0.now ≡ Some c.in-Some.fault =
    c.take.ensures.fault walk.before c.in-Some.fault walk.stands
    (c.in_ok-fault.was ∙ ap (λ (o : Option LineFault). Ok o) c.in-Some.is) in
    let found : first_fault c.args.text.now ≡ Some (c.loop-rest.number + 1, c.in-Some.fault) =
    walk_stops c.args.text.now c.loop-rest.rest.now c.first_line.result.0.now
    c.first_line.result.1.now c.loop-rest.draft c.loop-rest.number walk c.first_line.ensures
    c.in-Some.fault here in
    let number : c.loop-rest.number + 1 ≡ line = cc in
    let told : c.reason.result ≡ reason = cc in
    ap (option_map (λ (found : ℕ × LineFault). (found.0, reason_of found.1))) found
    ∙ ap (λ (n : ℕ). Some (n, reason_of c.in-Some.fault)) number ∙ ap (λ (r : ℕ). Some (line, r))
    (sym c.reason.ensures ∙ told)

pub loop-rest-preserved : goal.loop-rest-preserved
loop-rest-preserved c =
    let walk = c.loop-rest.invariant in
    let taken = c.take.ensures.good walk.before walk.stands
    (c.in_ok-fault.was ∙ ap (λ (o : Option LineFault). Ok o) c.in_default.is) in
    walk_goes_on c.args.text.now c.loop-rest.rest.now c.first_line.result.0.now
    c.first_line.result.1.now c.loop-rest.draft c.loop-rest.number walk c.first_line.ensures
    c.take.new.self taken.0 taken.1

pub returns-clause-ok : goal.returns-clause-ok
returns-clause-ok c =
    let end = walk_ends c.args.text.now c.loop-rest.rest.now c.loop-rest.draft c.loop-rest.number
    c.loop-rest.invariant (nil_from_length c.loop-rest.rest.now
    (eqb-true _ _ (sym c.loop-rest-test.ensures))) in
    record { good = end.0; meaning = c.into_workload.ensures ∙ end.1 }
