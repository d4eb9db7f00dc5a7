pub mod Scripted
pub mod OfScript
pub mod Shared
