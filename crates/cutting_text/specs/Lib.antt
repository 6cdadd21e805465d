-- What the code's modes mean, and what its counts and lists say.
pub mod Modes
pub mod TextSoFar
