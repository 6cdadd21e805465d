-- What the proofs of a mark's text share: that each figure of a verdict is held exactly, the mark in floats in words, and the run ends of a
-- text as bytes.
pub mod FiguresFit
pub mod InWords
pub mod EndBytes
pub mod Told
-- A longer sheet is marked as its first bytes are.
pub mod FirstBytes
