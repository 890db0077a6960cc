pub mod Rows
pub mod Fed
