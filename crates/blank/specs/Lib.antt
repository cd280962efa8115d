pub mod Meaning
pub mod Free
pub mod Zeros
pub mod Links
pub mod Laws
