use Rattle.std.proofs.Common.{Option, sym, ap, ◌∙◌}
use Rattle.std.specs.Option.{option_or}
use Rattle.sv_workload.specs.declared.fault.LineFault.{LineFault}
use Rattle.sv_workload.specs.Checking.{first_failed, later_checks}
use Rattle.sv_workload.proofs.first_check.Faulted.{both}
use Rattle.sv_workload.proofs.draft.Draft.fault.Goals as goal

pub returns-in-Some : goal.returns-in-Some
returns-in-Some c = λ lines s.
    let line = c.args.line.now in
    let first = sym c.in-Some.is ∙ c.form_fault.ensures.first lines s in
    sym (both lines line ∙ ap (λ (o : Option LineFault). option_or o
    (first_failed later_checks lines line)) (sym first))

pub returns-in-None : goal.returns-in-None
returns-in-None c = λ lines s.
    let line = c.args.line.now in
    let first = sym c.in-None.is ∙ c.form_fault.ensures.first lines s in
    c.later_fault.ensures lines s ∙ sym
    (both lines line ∙ ap (λ (o : Option LineFault). option_or o
    (first_failed later_checks lines line)) (sym first))
