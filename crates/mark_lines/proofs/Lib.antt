-- What the proofs of a mark's text share.
pub mod Shown
