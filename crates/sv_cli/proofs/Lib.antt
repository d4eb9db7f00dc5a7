pub mod Parts
pub mod Files
pub mod Reported
pub mod Played
pub mod Requests
pub mod Sizes
pub mod Started
