-- What crates above may use: that each entry of a recording is counted as an event or as a mark.
pub use Rattle.sv_analyse.proofs.Draining.{all_counted, counted}
pub use Rattle.sv_analyse.proofs.Seeing.{events-push}
