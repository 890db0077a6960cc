pub mod JoinedTests
pub mod Stored
