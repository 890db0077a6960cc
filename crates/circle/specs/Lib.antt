pub mod Circle
pub mod Marks
