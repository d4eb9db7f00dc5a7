-- What the tests use of the lemmas on packets.
pub use Rattle.sv_packet.proofs.Shared.{high_valid}
