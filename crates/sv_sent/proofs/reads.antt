-- A journal's stream is read as the packets of its stored items.
pub mod Starting
pub mod OneMore
pub mod Stages
pub mod Waiting
pub mod Going
pub mod Reading
pub mod Streams
