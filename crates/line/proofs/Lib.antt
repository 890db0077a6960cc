pub mod FieldLaws
pub mod GrammarLaws
pub mod RunLaws
pub mod PartLaws
pub mod Examples
