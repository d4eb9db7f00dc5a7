-- What a journal is told by: its turns, and the workload's commands.
pub mod Counts
pub mod Sections
pub mod Heads
pub mod OriginsOfTurns
pub mod TurnCounts
pub mod NoHeads
