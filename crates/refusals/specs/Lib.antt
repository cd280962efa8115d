-- The definitions that contracts cite of the code's refusals.
-- Assumes nothing.
pub mod Meaning
