pub mod Fed
pub mod Hosting
pub mod Named
pub mod Ran
