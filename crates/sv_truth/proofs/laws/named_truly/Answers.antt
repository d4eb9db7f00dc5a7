use Rattle.sv_truth.proofs.Naming.{truly}
use Rattle.sv_truth.proofs.laws.named_truly.Goals as goal

pub returns : goal.returns
returns c = truly
