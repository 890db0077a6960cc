pub mod ReaderLaws
pub mod StartWork
