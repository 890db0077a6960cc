pub mod SearchLaws
pub mod TrailLaws
