mod FrameTaken
pub mod CommandLaws
