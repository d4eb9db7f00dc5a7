-- Needs worked out by hand.
pub mod Needs
