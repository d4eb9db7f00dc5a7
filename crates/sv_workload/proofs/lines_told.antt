-- A draft stands for the lines so far, and for one line more.
pub mod Standing
pub mod Steady
pub mod OneMore
pub mod Changes
pub mod Growing
pub mod Rooms
pub mod Turns
