use Rattle.std.proofs.Common.{◌∙◌}
use Rattle.sv_workload.proofs.fit_lines.Capping.{first_capped}
use Rattle.sv_workload.proofs.read_line.ReadLine.first_number.Goals as goal

pub returns : goal.returns
returns c =
    c.number_or.ensures ∙ first_capped c.args.self.now c.numbers.result.now c.numbers.ensures
