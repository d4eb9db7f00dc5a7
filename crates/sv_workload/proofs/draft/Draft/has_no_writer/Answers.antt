use Rattle.std.proofs.Common.{ℕ, ap, ◌∙◌}
use Rattle.sv_workload.specs.declared.keyword.Keyword.{Keyword}
use Rattle.sv_workload.specs.Checking.{lacks_writer}
use Rattle.sv_workload.proofs.first_check.Numbered.{no_writer}
use Rattle.sv_workload.proofs.draft.Draft.has_no_writer.Goals as goal

pub returns : goal.returns
returns c = λ lines s.
    let first = c.first_number.ensures in
    c.lacks_writer.ensures.told
    ∙ ap (λ (k : Keyword). lacks_writer c.args.self.now k c.first_number.result) c.keyword.ensures
    ∙ ap (λ (n : ℕ). lacks_writer c.args.self.now c.args.line.now.keyword n) first
    ∙ no_writer c.args.self.now lines c.args.line.now s c.lacks_writer.ensures.few
