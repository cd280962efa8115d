-- The definitions and laws that the contracts and proofs of `names` cite.
-- Assumes nothing.
pub mod Answer
pub mod Laws
