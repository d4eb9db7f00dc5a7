use Rattle.std.proofs.Common.{arith}
use Rattle.sv_core.proofs.Shared.{little}
use Rattle.sv_tests_record.proofs.simulation.replay_with_lost_packets.Goals as goal

pub turns_of-requires : goal.turns_of-requires
turns_of-requires g c = record {
  rises = little c.in_ok-load.load c.in-Ok.run'.journal.items c.in-Ok.ensures.replayed.legal
      (omega (arith, c.in_ok-load.ensures.ring));
}
