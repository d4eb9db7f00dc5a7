pub mod Shared
pub mod examples
pub mod Steps
pub mod Next
pub mod Scripts
pub mod Parts
pub mod Facts
