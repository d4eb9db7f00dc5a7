-- What a recorder keeps is kept by each kind of item.
pub mod Items
pub mod Packets
pub mod Overflows
pub mod Holds
pub mod Groups
