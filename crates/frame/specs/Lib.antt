pub mod FieldMap
pub mod Frames
pub mod Answers
pub mod Layouts
