pub mod RowLaws
pub mod IndexLaws
pub mod Agreement
pub mod Changes
