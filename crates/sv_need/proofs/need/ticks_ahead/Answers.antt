use Rattle.sv_need.proofs.Ticks.{ticks_next}
use Rattle.sv_need.proofs.need.ticks_ahead.Goals as goal

pub returns : goal.returns
returns c = ticks_next
