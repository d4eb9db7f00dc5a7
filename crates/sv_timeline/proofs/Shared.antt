-- What crates above may use: the runs that have ended, as the events give them.
pub use Rattle.sv_timeline.proofs.Listed.{given_ended, runs_grow, timeline_is}
pub use Rattle.sv_timeline.proofs.Once.{timeline_once}
pub use Rattle.sv_timeline.proofs.Same.{same_is, same_equiv}
-- and the contexts of ticks with one event more
pub use Rattle.sv_timeline.proofs.Growing.{AreUpTo, context_at-later, context_at-new, context_before}
pub use Rattle.sv_timeline.proofs.Growing.{filter_all, until_later, up_to_more}
