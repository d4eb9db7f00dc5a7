use Rattle.std.proofs.Common.{◌≡◌}
use Rattle.std.specs.Prelude.{count_by}
use Rattle.sv_core.specs.Order.{is_send, possible}
use Rattle.sv_core.specs.Played.{IsPlayed}
use Rattle.sv_core.proofs.in_order.OrderParts.{asked_by}
use Rattle.sv_core.proofs.simulation.play_schedule.Given as goal

abbrev pub invariant-loop-at : goal.invariant-loop-at
invariant-loop-at g l = record {
  played : IsPlayed l.load (possible l.load (asked_by l.load l.at)) l.recorder;
  sent : l.sent ≡ count_by is_send (possible l.load (asked_by l.load l.at));
}
