use Rattle.sv_prim.proofs.Spellings.{spelled, once}
use Rattle.sv_prim.proofs.laws.number_spelled.Goals as goal

pub returns-clause-spelled : goal.returns-clause-spelled
returns-clause-spelled c = spelled

pub returns-clause-once : goal.returns-clause-once
returns-clause-once c = once
