-- Simulated journals worked out by hand, each with its turns, and journals that are none with one
-- thing changed.
pub mod Short
pub mod Alone
pub mod Stopped
pub mod StoppedFreed
pub mod Narrow
pub mod Interleaved
