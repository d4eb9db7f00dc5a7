-- A journal's own turns, gathered item by item, and the journal that they give again.
pub mod TurnsPushed
pub mod Gathered
pub mod Rising
pub mod Settling
