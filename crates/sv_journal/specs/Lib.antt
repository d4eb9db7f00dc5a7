pub mod Items
pub mod Frees
pub mod Legal
pub mod Stream
pub mod Open
pub mod Clock
pub mod Packets
pub mod Section
