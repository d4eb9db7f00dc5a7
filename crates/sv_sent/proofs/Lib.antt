pub mod Shared
pub mod examples
pub mod places
pub mod texts
pub mod reads
pub mod times
