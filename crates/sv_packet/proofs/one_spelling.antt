-- A packet has one spelling, no spelling begins another, and of any bytes something can be told.
pub mod Fields
pub mod Regular
pub mod Forms
pub mod Free
pub mod Spelled
pub mod Once
pub mod Totality
pub mod Shorts
pub mod Parts
