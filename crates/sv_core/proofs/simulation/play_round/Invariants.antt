use Rattle.std.proofs.Common.{◌≡◌, ℕ, ◌++◌}
use Rattle.sv_core.specs.Played.{IsPlayed, played_rounds}
use Rattle.sv_core.proofs.in_order.RoundParts.{round_part}
use Rattle.sv_core.proofs.simulation.play_round.Given as goal

abbrev pub invariant-loop-writer : goal.invariant-loop-writer
invariant-loop-writer g l = record {
  same : l.recorder.load ≡ l.load;
  played : (rounds : ℕ) → IsPlayed l.load (played_rounds l.load rounds) l.fn.recorder →
      IsPlayed l.load (played_rounds l.load rounds ++ round_part l.load rounds l.writer)
      l.recorder;
}
