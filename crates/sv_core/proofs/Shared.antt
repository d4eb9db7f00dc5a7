-- What crates above may use of the lemmas on the host's commands and on turns.
pub use Rattle.sv_core.proofs.taking.Commands.{bytes_more, bytes_room, same_first, some_bytes}
pub use Rattle.sv_core.proofs.own_turns.Rising.{little}
