pub mod Change
pub mod Actions
