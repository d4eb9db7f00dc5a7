-- Of one workload and one order, or of some turns, there is one journal.
pub mod TurnsOfOrder
pub mod OneJournal
pub mod OneReplay
