use Rattle.std.proofs.Common.{ℕ, List, sym, ap, ◌∙◌}
use Rattle.sv_workload.specs.declared.keyword.Keyword.{Keyword}
use Rattle.sv_workload.specs.Meaning.{action_by}
use Rattle.sv_workload.proofs.fit_lines.Capping.{turn_numbers}
use Rattle.sv_workload.proofs.parts.action.Goals as goal

pub returns : goal.returns
returns c = λ word fit low.
    let line = c.args.line.now in
    c.turn.ensures ∙ ap (λ (k : Keyword). action_by k c.numbers.result.now) (sym word) ∙ ap
    (λ (ns : List ℕ). action_by line.keyword ns)
    (c.numbers.ensures ∙ turn_numbers line c.args.word word fit low)
