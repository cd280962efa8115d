pub mod History
pub mod Demand3
pub mod Replays
pub mod Cuts
pub mod Events
pub mod Cancels
pub mod Rows
