pub mod ChangeLaws
pub mod ChangeAgreement
pub mod ActionLaws
