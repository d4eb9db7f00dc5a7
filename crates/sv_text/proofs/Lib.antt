pub mod Cuts
pub mod Digits
pub mod FirstLine
pub mod Searched
pub mod ReadBack
pub mod Shared
