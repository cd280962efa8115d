pub mod Meaning
pub mod Free
pub mod Rules
pub mod Answer
