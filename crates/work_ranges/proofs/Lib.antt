pub mod CountedRanges
