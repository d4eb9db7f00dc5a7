-- The groups of a step, the commands of the host, and a section whole.
pub mod Rows
pub mod Giving
pub mod Books
pub mod Inboxes
pub mod Commands
pub mod Recorders
pub mod Views
pub mod Sections
pub mod Fresh
