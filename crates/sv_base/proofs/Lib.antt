pub mod Writing
pub mod Reading
pub mod Places
pub mod Blames
pub mod Shared
