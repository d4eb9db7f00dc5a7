-- What a workload within the limits tells can be spelled.
pub mod Spelled
pub mod Texts
pub mod Speakable
