pub mod Truth
pub mod Segment
