-- What crates above may use: codes that are read from the front, one after another, numbers and texts.
pub use Rattle.sv_prim.proofs.Below.{are_bytes, bytes_behind, bytes_both, bytes_front, zeros}
pub use Rattle.sv_prim.proofs.Carried.{carried_breaks, carried_short, carried_total}
pub use Rattle.sv_prim.proofs.Codes.{begins_not_breaks, begins_not_cut, begins_once, breaks_once}
pub use Rattle.sv_prim.proofs.Codes.{cut_not_breaks, not_nil, told_only}
pub use Rattle.sv_prim.proofs.Groups.{number_free, zero_number}
pub use Rattle.sv_prim.proofs.Sequence.{begins_in_front, fronts_same, pair_begins}
pub use Rattle.sv_prim.proofs.Sequence.{pair_breaks_first, pair_breaks_second, pair_free}
pub use Rattle.sv_prim.proofs.Sequence.{pair_reason, pair_short_first, pair_short_second}
pub use Rattle.sv_prim.proofs.Spellings.{groups_of-last, groups_of-next, of_few, once, spelled}
pub use Rattle.sv_prim.proofs.Texts.{text_fits, text_free, text_once, text_spelled}
pub use Rattle.sv_prim.proofs.Texts.{text_spelling-long, text_spelling-short}
pub use Rattle.sv_prim.proofs.TextsAt.{at_of, text_total}
pub use Rattle.sv_prim.proofs.Totality.{number_total, pair_total}
