pub mod Meaning
pub mod Passing
pub mod Stops
pub mod Positions
