pub mod Memory
pub mod Counts
pub mod Effects
