-- A text, line by line, to its end or to its first fault.
pub mod FirstFault
pub mod Walking
