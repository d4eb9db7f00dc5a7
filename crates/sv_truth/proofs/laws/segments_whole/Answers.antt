use Rattle.sv_truth.proofs.Segments.{segment_held}
use Rattle.sv_truth.proofs.laws.segments_whole.Goals as goal

pub returns : goal.returns
returns c = segment_held
