pub mod Numbered
pub mod WorkLaws
