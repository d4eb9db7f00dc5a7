pub mod one_spelling
pub mod how_long
pub mod lists
pub mod told_of_parts
pub mod Shared
