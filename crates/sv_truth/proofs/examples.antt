-- Journals worked out by hand: what all calls say, what the stream says, and what it must not say.
pub mod Words
pub mod Hidden
pub mod Stopped
pub mod Late
