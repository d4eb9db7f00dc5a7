-- The first check that a line fails.
pub mod Faulted
pub mod Passed
pub mod Numbered
