-- A recorder takes turns over a ring that frees by their plan.
pub mod Commands
pub mod FreesCounted
pub mod TurnsTaken
