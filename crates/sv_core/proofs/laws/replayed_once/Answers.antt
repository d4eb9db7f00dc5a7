use Rattle.sv_core.proofs.once.OneReplay.{replayed_once}
use Rattle.sv_core.proofs.laws.replayed_once.Goals as goal

pub returns : goal.returns
returns c = replayed_once
