-- What the proofs of templates share.
pub mod Filling
pub mod Chains
