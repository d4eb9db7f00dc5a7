use Rattle.sv_core.proofs.failing.BadTurns.{not_both, one_place}
use Rattle.sv_core.proofs.failing.EitherWay.{either}
use Rattle.sv_core.proofs.laws.bad_turns.Goals as goal

pub returns-clause-apart : goal.returns-clause-apart
returns-clause-apart c = not_both

pub returns-clause-once : goal.returns-clause-once
returns-clause-once c = one_place

pub returns-clause-either : goal.returns-clause-either
returns-clause-either c = either
