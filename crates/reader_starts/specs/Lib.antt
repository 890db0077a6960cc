pub mod Starts
pub mod ReaderFacts
