pub mod Role
pub mod Context
pub mod Order
pub mod Change
pub mod State
