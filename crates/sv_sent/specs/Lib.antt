pub mod Start
pub mod Sent
