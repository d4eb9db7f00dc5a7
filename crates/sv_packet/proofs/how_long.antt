-- How many bytes and numbers packets have.
pub mod Sizes
pub mod Lengths
pub mod Counts
pub mod Flats
pub mod Taken
