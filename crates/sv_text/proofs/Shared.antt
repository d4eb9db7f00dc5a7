-- What crates above may use: what is written is read back, and what a digit is.
pub use Rattle.sv_text.proofs.Digits.{in_range}
pub use Rattle.sv_text.proofs.ReadBack.{lines_back, number_back, decimal_digits}
