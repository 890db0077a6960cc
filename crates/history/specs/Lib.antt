pub mod Log
pub mod World
pub mod Claim
