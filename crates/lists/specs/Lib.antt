pub mod Lists
pub mod ListLaws
pub mod Permutations
pub mod Counts
pub mod OneChanged
pub mod Stores
pub mod OnlyOne
pub mod Indices
