pub mod Access
pub mod Search
