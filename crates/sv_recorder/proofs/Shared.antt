-- What crates above may use of the lemmas on recorders.
pub use Rattle.sv_recorder.proofs.moving.Freed.{still-freed}
