pub mod RemovalLaws
pub mod RemovalAgreement
