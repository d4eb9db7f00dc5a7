-- What crates above may use of the lemmas on a journal's items and on how its stream reads.
pub use Rattle.sv_sent.proofs.places.Tests.{and_no, by_test, clash, or_last}
pub use Rattle.sv_sent.proofs.places.Fates.{Fate, fate, handling, ignoring, refusing, storing}
pub use Rattle.sv_sent.proofs.places.Fates.{overflow_plain, start_off_control, sync_is}
pub use Rattle.sv_sent.proofs.places.Later.{IsLater}
pub use Rattle.sv_sent.proofs.places.Following.{previous}
pub use Rattle.sv_sent.proofs.places.Placed.{IsPlaced, placed, previous-other, previous-over}
pub use Rattle.sv_sent.proofs.times.Sending.{at_time, event-told, events-kept, nops-told}
pub use Rattle.sv_sent.proofs.texts.Speakable.{AreSpellable, IsSpellable, act_spoken, spellable}
pub use Rattle.sv_sent.proofs.reads.Stages.{HowFar}
pub use Rattle.sv_sent.proofs.reads.Going.{how_far}
pub use Rattle.sv_sent.proofs.times.Timed.{synced-before}
pub use Rattle.sv_sent.proofs.reads.Streams.{entries_as, packets_as, read_as, times_as}
