use Rattle.std.proofs.Common.{ℕ, ap, ◌∙◌}
use Rattle.sv_workload.specs.declared.keyword.Keyword.{Keyword}
use Rattle.sv_workload.specs.Checking.{repeats}
use Rattle.sv_workload.proofs.first_check.Numbered.{repeated}
use Rattle.sv_workload.proofs.draft.Draft.is_repeated.Goals as goal

pub returns : goal.returns
returns c = λ lines s.
    let first = c.first_number.ensures in
    c.repeats.ensures
    ∙ ap (λ (k : Keyword). repeats c.args.self.now k c.first_number.result) c.keyword.ensures
    ∙ ap (λ (id : ℕ). repeats c.args.self.now c.args.line.now.keyword id) first
    ∙ repeated c.args.line.now c.requires c.args.self.now lines s
