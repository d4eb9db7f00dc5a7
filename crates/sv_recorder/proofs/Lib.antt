pub mod Shared
pub mod examples
pub mod moving
pub mod steps
pub mod keeping
