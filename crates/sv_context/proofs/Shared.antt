-- What crates above may use: one role more, for the frames and the base.
pub use Rattle.sv_context.proofs.Frames.{frames-base, frames-enter, frames-exit, frames-nothing}
pub use Rattle.sv_context.proofs.Frames.{without_last}
pub use Rattle.sv_context.proofs.Steps.{base_in, base-new, base-stays, segment-more}
