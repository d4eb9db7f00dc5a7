-- What each view writes of a recording.
pub mod Events
pub mod Check
pub mod Timeline
pub mod Report
