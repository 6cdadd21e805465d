-- The answer of the reversal of stretches.
pub mod Reversing
-- The answer of route elimination.
pub mod Eliminating
