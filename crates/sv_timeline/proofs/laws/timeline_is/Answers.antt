use Rattle.sv_timeline.proofs.Listed.{timeline_is}
use Rattle.sv_timeline.proofs.laws.timeline_is.Goals as goal

pub returns : goal.returns
returns c = timeline_is
