-- What crates above may use: sums over scripts with one step or one script more.
pub use Rattle.sv_load.proofs.Scripted.{over_last, over_begun}
