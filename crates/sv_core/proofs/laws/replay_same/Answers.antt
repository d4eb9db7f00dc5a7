use Rattle.sv_core.specs.Replayed.{replay_of}
use Rattle.sv_core.specs.Turns.{turns_of}
use Rattle.sv_core.proofs.own_turns.Settling.{replayed, replay_same}
use Rattle.sv_core.proofs.failing.BadTurns.{not_both}
use Rattle.sv_core.proofs.laws.replay_same.Goals as goal

pub returns-clause-given : goal.returns-clause-given
returns-clause-given c = replayed

pub returns-clause-same : goal.returns-clause-same
returns-clause-same c = λ load items others legal commands of. let both =
    replay_same load items others legal commands of in both.0

pub returns-clause-stream : goal.returns-clause-stream
returns-clause-stream c = λ load items others legal commands of. let both =
    replay_same load items others legal commands of in both.1

pub returns-clause-sound : goal.returns-clause-sound
returns-clause-sound c =
    λ load items at legal commands bad.
    not_both load (turns_of items) at (replay_of items) bad (replayed load items legal commands)
