use Rattle.std.proofs.Common.{ap, ◌∙◌}
use Rattle.sv_workload.specs.Checking.{is_no_keyword}
use Rattle.sv_workload.proofs.first_check.Faulted.{no_keyword}
use Rattle.sv_workload.proofs.check.lacks_keyword.Goals as goal

pub returns : goal.returns
returns c =
    λ lines. c.is_no_keyword.ensures ∙ ap is_no_keyword c.keyword.ensures ∙ no_keyword
    c.args.line.now.keyword
