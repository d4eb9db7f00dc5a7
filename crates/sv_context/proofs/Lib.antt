pub mod Shared
pub mod Examples
pub mod Short
pub mod Frames
pub mod Steps
pub mod Standing
mod Known
