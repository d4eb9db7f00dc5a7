use Rattle.sv_core.proofs.own_turns.Rising.{rising, frees_small, little}
use Rattle.sv_core.proofs.laws.frees_small.Goals as goal

pub returns-clause-rises : goal.returns-clause-rises
returns-clause-rises c = rising

pub returns-clause-numbers : goal.returns-clause-numbers
returns-clause-numbers c = frees_small

pub returns-clause-little : goal.returns-clause-little
returns-clause-little c = little
