pub mod Command
pub mod CommandFrames
