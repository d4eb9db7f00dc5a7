pub mod Modules
pub mod Says
