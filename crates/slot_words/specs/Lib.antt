pub mod Word
pub mod Points
pub mod Taken
