pub mod PutLaws
pub mod PutAgreement
