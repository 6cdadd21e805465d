-- What the proofs of the listing's text share.
pub mod Putting
pub mod Digits
pub mod Pieces
pub mod WholePart
-- A run list run by run, and its lines.
pub mod RunWalk
pub mod RunTurns
