pub mod Threads
pub mod Meaning
pub mod Laws
