-- What a reader that goes over the parts of a packet tells is told of the whole.
pub mod Reading
pub mod ReadNumbers
pub mod Pieces
pub mod Whole
pub mod Making
pub mod Payloads
pub mod Formed
pub mod Known
pub mod Bodies
pub mod Stopping
pub mod Deciding
