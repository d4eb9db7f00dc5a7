-- A recorder takes the turns of a workload's order.
pub mod SectionParts
pub mod SectionMore
pub mod StepCounts
pub mod OrderParts
pub mod RoundParts
pub mod Rounds
pub mod Playing
pub mod PlayingLines
