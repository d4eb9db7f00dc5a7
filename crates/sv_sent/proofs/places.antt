-- Each item of a legal journal in its place.
pub mod Tests
pub mod Fates
pub mod Later
pub mod Replies
pub mod Chained
pub mod Following
pub mod Placed
