-- Any turns have a journal, or one place where they fail.
pub mod BadTurns
pub mod ByPlan
pub mod GoingOn
pub mod RunSections
pub mod EitherWay
