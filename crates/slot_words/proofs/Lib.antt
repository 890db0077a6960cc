pub mod TakenLaws
pub mod WordLaws
