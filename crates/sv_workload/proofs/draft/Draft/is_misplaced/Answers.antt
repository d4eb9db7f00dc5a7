use Rattle.std.proofs.Common.{not, ap, ◌∙◌}
use Rattle.sv_workload.specs.Checking.{has_place}
use Rattle.sv_workload.proofs.lines_told.Standing.{misplaced}
use Rattle.sv_workload.proofs.draft.Draft.is_misplaced.Goals as goal

pub returns : goal.returns
returns c =
    λ lines s. ap not (c.has_place.ensures ∙ ap (has_place c.args.self.now) c.keyword.ensures) ∙
    misplaced c.args.self.now lines c.args.line.now s
