pub mod Meaning
pub mod Laws
pub mod Whole
pub mod Answer
