-- Which ways of a ring a journal worked out by hand follows.
pub mod Ways
