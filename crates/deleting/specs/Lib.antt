pub mod Meaning
pub mod Writes
pub mod Laws
