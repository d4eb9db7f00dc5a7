pub mod Joined
pub mod Front
pub mod Grown
pub mod Arguments
