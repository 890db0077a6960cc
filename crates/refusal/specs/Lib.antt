pub mod Judging
pub mod Refusals
