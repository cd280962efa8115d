pub mod Differ
pub mod Tally
