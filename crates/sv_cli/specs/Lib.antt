pub mod Commands
pub mod Status
pub mod ErrorLine
pub mod Devices
pub mod Recorded
pub mod Answers
pub mod Reading
