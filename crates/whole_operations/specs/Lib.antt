pub mod Whole
pub mod WholeFacts
