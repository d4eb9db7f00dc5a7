use Rattle.sv_timeline.proofs.Listed.{runs_grow}
use Rattle.sv_timeline.proofs.laws.runs_grow.Goals as goal

pub returns : goal.returns
returns c = runs_grow
