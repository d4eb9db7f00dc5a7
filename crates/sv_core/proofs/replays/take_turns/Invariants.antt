use Rattle.sv_core.specs.Used.{HasUsed}
use Rattle.sv_core.proofs.taking.TurnsTaken.{HasTurned}
use Rattle.sv_core.proofs.replays.take_turns.Given as goal

abbrev pub invariant-loop-at : goal.invariant-loop-at
invariant-loop-at g l =
    HasTurned l.load l.steps l.frees l.at l.recorder l.sent
    × HasUsed l.recorder.items l.frees l.used.count l.used.freed l.used.after_lost
