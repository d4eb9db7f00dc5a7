-- Two passes over the words of a line give its fields.
pub mod Keywords
pub mod Passing
pub mod Shapes
pub mod Ranges
pub mod Fielded
