pub mod Limits
pub mod Load
pub mod Need
pub mod Scripts
pub mod Builder
