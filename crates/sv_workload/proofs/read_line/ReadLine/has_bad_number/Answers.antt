use Rattle.std.proofs.Common.{ap, ◌∙◌}
use Rattle.sv_workload.specs.Line.{Line}
use Rattle.sv_workload.specs.Checks.{has_bad_number}
use Rattle.sv_workload.proofs.read_line.ReadLine.has_bad_number.Goals as goal

pub returns : goal.returns
returns c = λ before.
    c.self.invariant.1.ranged ∙ ap (λ (line : Line). has_bad_number before line) c.self.view_is
