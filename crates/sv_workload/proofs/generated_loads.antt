-- Generated workloads: what they count, and that their texts say them.
pub mod Generating
pub mod StepLines
pub mod Reading
pub mod Said
