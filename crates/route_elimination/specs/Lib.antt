-- The customers of a run placed.
pub mod Placing
-- Elimination on floats.
pub mod Elimination
