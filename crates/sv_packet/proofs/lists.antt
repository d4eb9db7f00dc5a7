-- Lists and times with one more element.
pub mod Adding
pub mod Growing
pub mod Times
