pub mod Meaning
pub mod Orders
pub mod Listing
