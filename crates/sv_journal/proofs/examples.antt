-- Journals worked out by hand with their streams, and journals that are not legal with one thing
-- changed.
pub mod Words
pub mod Alone
pub mod Stopped
pub mod Refusals
pub mod NotRefusals
pub mod Restarted
pub mod NotRestarted
pub mod Commands
pub mod NotCommands
pub mod Asked
pub mod NotAsked
pub mod Clocked
pub mod Gated
pub mod Texts
pub mod Streams
