pub mod WorkRanges
