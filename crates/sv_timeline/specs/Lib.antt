pub mod Ticks
pub mod Timeline
pub mod Runs
pub mod Load
pub mod Totals
pub mod State
