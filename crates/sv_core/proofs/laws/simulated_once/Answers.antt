use Rattle.sv_core.proofs.once.OneJournal.{one_simulated}
use Rattle.sv_core.proofs.laws.simulated_once.Goals as goal

pub returns : goal.returns
returns c = record { journal = one_simulated }
