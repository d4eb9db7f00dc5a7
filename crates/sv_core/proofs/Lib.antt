pub mod Shared
pub mod examples
pub mod parts
pub mod once
pub mod own_turns
pub mod failing
pub mod taking
pub mod in_order
