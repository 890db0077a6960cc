mod DecimalLaws
pub mod FillingLaws
pub mod OutputLaws
