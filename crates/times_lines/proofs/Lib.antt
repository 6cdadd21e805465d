-- What the proofs of a timeline's lines share.
pub mod Templates
pub mod Turns
