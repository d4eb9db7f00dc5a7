-- What streams of journals worked out by hand are read as.
pub mod Read
