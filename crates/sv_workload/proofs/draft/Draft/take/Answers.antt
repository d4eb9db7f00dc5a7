use Rattle.std.proofs.Common.{List, sym, subst, ◌∙◌}
use Rattle.sv_workload.specs.Line.{Line}
use Rattle.sv_workload.specs.Draft.{Stands}
use Rattle.sv_workload.specs.Grammar.{said}
use Rattle.sv_workload.proofs.whole_text.Walking.{line_said, remark_said, fault_said}
use Rattle.sv_workload.proofs.draft.Draft.take.Goals as goal

pub returns-then-is_remark-clause-good : goal.returns-then-is_remark-clause-good
returns-then-is_remark-clause-good c = λ before stands is.
    let same = remark_said before c.args.line.now (sym c.if-is_remark.ensures) in
    (same.0, subst (λ (l : List Line). Stands c.args.self.now l) (sym same.1) stands)

pub returns-clause-fault : goal.returns-clause-fault
returns-clause-fault c = λ before fault stands is.
    fault_said before c.args.line.now (sym c.if-is_remark.ensures) ∙ c.take_said.ensures.fault
    (said before) fault stands is

pub returns-clause-good : goal.returns-clause-good
returns-clause-good c = λ before stands is.
    let plain = sym c.if-is_remark.ensures in
    let taken = c.take_said.ensures.good (said before) stands is in (
      fault_said before c.args.line.now plain ∙ taken.0,
      subst (λ (l : List Line). Stands c.take_said.new.self l)
          (sym (line_said before c.args.line.now plain)) taken.1,
    )
