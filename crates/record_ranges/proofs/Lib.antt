pub mod All
pub mod NumberedRanges
pub mod Laws
