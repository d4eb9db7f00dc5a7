-- How far an entry moves the book and its ring.
pub mod Freed
pub mod Entries
pub mod Moves
pub mod OverflowMoves
pub mod Goes
