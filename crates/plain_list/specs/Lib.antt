pub mod PlainList
