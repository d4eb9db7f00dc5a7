pub mod examples
pub mod fit_lines
pub mod words_read
pub mod first_check
pub mod whole_text
pub mod lines_told
pub mod generated_loads
