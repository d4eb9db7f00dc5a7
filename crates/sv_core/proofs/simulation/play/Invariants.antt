use Rattle.sv_core.specs.Played.{IsPlayed, played_rounds}
use Rattle.sv_core.proofs.simulation.play.Given as goal

abbrev pub invariant-loop : goal.invariant-loop
invariant-loop g l = IsPlayed l.load (played_rounds l.load l.counter) l.recorder
