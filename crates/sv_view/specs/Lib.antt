pub mod Text
pub mod texts
pub mod Files
pub mod Answer
pub mod Scan
pub mod Live
