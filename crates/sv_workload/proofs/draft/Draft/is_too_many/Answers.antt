use Rattle.std.proofs.Common.{ap, ◌∙◌}
use Rattle.sv_workload.specs.Checking.{has_all}
use Rattle.sv_workload.proofs.lines_told.Standing.{too_many}
use Rattle.sv_workload.proofs.draft.Draft.is_too_many.Goals as goal

pub returns : goal.returns
returns c =
    λ lines s. c.has_all.ensures ∙ ap (has_all c.args.self.now) c.keyword.ensures ∙ too_many
    c.args.self.now lines s c.args.line.now.keyword
