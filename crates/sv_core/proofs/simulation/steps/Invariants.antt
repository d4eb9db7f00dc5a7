use Rattle.std.proofs.Common.{◌≡◌, List, ◌++◌, replicate}
use Rattle.sv_load.specs.Load.{Load}
use Rattle.sv_core.specs.Order.{Turn, Takes_step, possible}
use Rattle.sv_core.specs.Played.{IsPlayed}
use Rattle.sv_core.proofs.simulation.steps.Given as goal

abbrev pub invariant-loop : goal.invariant-loop
invariant-loop g l = record {
  same : l.recorder.load ≡ l.fn.recorder.load;
  played : (load : Load) → (asked : List Turn) →
      IsPlayed load (possible load asked) l.fn.recorder →
      IsPlayed load (possible load (replicate l.counter (Takes_step l.writer) ++ asked))
      l.recorder;
}
