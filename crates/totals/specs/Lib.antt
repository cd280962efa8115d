pub mod Totals
pub mod Rows
pub mod Runs
pub mod Meaning
