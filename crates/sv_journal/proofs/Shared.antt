-- What crates above may use of the lemmas on journals.
pub use Rattle.sv_journal.proofs.Scripts.{calls_within, one_script}
pub use Rattle.sv_journal.proofs.Steps.{latest_first-push, stream_of-push, each-push}
pub use Rattle.sv_journal.proofs.Steps.{IsLegal-open, IsOpen-legal, IsOpen-push, IsOpen-overflow}
pub use Rattle.sv_journal.proofs.Steps.{is_on-off, is_on-other, is_on-start, is_on-stop, is_on-told}
pub use Rattle.sv_journal.proofs.Steps.{last_moment-other, last_moment-stored}
pub use Rattle.sv_journal.proofs.Steps.{origins_of-overflow, origins_of-push}
pub use Rattle.sv_journal.proofs.Steps.{outcome_at-after, outcome_at-control, outcome_at-off}
pub use Rattle.sv_journal.proofs.Steps.{outcome_at-write, stored_before-le}
pub use Rattle.sv_journal.proofs.Steps.{pending_at-other, pending_at-refused}
pub use Rattle.sv_journal.proofs.Steps.{pending_at-stored_overflow}
pub use Rattle.sv_journal.proofs.Next.{Stands, next-plain, next-overflow, next-after}
pub use Rattle.sv_journal.proofs.Next.{after_refused-fresh, overflow_item}
pub use Rattle.sv_journal.proofs.Parts.{after-push, alone, each-front, more_groups, next_is}
pub use Rattle.sv_journal.proofs.Parts.{no_packet, not_head, not_two, origins_of-append}
pub use Rattle.sv_journal.proofs.Parts.{origins_of-cons, reverse_moved, unmoved}
pub use Rattle.sv_journal.proofs.Facts.{forms_packet, freed_rises, freed-written, frees-written}
pub use Rattle.sv_journal.proofs.Facts.{moment_is, no_overflow, no_ticks, overflow_is}
pub use Rattle.sv_journal.proofs.Facts.{overflow_written, packet_is, same_next, ticks_in}
pub use Rattle.sv_journal.proofs.Facts.{ticks-before_overflow, ticks-cons, writes, written_is}
-- and of the journals worked out by hand
pub use Rattle.sv_journal.proofs.examples.Words.{Same, at, load_of, mark, start, stop, whole_of}
pub use Rattle.sv_journal.proofs.examples.Alone.{load as alone_load, items as alone_items}
pub use Rattle.sv_journal.proofs.examples.Refusals.{load as refused_load, items as refused_items}
pub use Rattle.sv_journal.proofs.examples.Refusals.{legal as refused_legal}
