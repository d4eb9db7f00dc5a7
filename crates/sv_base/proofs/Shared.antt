-- What crates above may use of this crate's lemmas.
pub use Rattle.sv_base.proofs.Blames.{Blames-yes, Blames-no, Blames-as, Blames-of}
pub use Rattle.sv_base.proofs.Blames.{BlamesLast-yes, BlamesLast-no, BlamesLast-as}
pub use Rattle.sv_base.proofs.Reading.{Consumes-then, Consumes-kept}
pub use Rattle.sv_base.proofs.Writing.{Appends-then}
