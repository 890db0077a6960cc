pub mod PlaceLaws
pub mod HandedOn
