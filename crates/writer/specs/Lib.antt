pub mod Step
pub mod Work
pub mod Starts
pub mod WriterFacts
