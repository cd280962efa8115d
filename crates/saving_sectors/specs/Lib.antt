pub mod Meaning
pub mod Bytes
pub mod Links
pub mod Taking
pub mod Writes
