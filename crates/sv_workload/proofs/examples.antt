-- Texts worked out by hand: their faults, and the workloads that they are.
pub mod Faults
pub mod LineFaults
pub mod Loads
pub mod Generated
