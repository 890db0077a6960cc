pub mod Turn
pub mod TurnFacts
pub mod Due
