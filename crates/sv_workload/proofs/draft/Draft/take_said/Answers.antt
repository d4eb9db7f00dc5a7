use Rattle.std.proofs.Common.{◌≡◌, [], ◌∷◌, ◌++◌, Some, None, sym, ap, subst, ◌∙◌}
use Rattle.sv_workload.specs.declared.fault.LineFault.{LineFault}
use Rattle.sv_workload.specs.Line.{Line}
use Rattle.sv_workload.specs.Checks.{fault_of}
use Rattle.sv_workload.specs.Draft.{Stands}
use Rattle.sv_workload.proofs.draft.Draft.take_said.Goals as goal

pub returns-in-Some-clause-fault : goal.returns-in-Some-clause-fault
returns-in-Some-clause-fault c = λ lines fault stands is.
    let found : fault_of lines c.of-line.result ≡ Some c.in-Some.fault = sym
    (c.fault.ensures lines stands) ∙ c.in-Some.is in
    let same : c.in-Some.fault ≡ fault = cc in
    ap (fault_of lines) (sym c.of-line.ensures) ∙ found ∙ ap (λ (f : LineFault). Some f) same

pub returns-clause-good : goal.returns-clause-good
returns-clause-good c = λ lines stands is.
    let none : fault_of lines c.of-line.result ≡ None = sym (c.fault.ensures lines stands) ∙
    c.in_default.is in (
      ap (fault_of lines) (sym c.of-line.ensures) ∙ none,
      subst (λ (l : Line). Stands c.add.new.self (lines ++ l ∷ [])) c.of-line.ensures
          (c.in_ok-add.ensures lines stands none),
    )
