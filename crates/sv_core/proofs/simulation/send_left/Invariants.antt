use Rattle.std.proofs.Common.{◌-◌, ◌++◌, replicate}
use Rattle.sv_core.specs.Order.{Sends, scheduled}
use Rattle.sv_core.specs.Played.{IsPlayed}
use Rattle.sv_core.proofs.simulation.send_left.Given as goal

abbrev pub invariant-loop-at : goal.invariant-loop-at
invariant-loop-at g l =
    IsPlayed l.load (scheduled l.load ++ replicate (l.at - l.sent) Sends) l.recorder
