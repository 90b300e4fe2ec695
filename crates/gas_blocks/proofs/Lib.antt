pub mod Counts
pub mod Ranges
pub mod Tallies
