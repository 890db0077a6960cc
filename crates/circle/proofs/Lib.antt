pub mod CircleLaws
pub mod HighestDigit
pub mod MarksLaws
