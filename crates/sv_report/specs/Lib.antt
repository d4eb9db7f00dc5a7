pub mod Lines
pub mod Ends
pub mod Words
pub mod Told
pub mod Growth
pub mod Spans
pub mod ReportText
