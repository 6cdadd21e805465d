-- A timeline in rows of numbers.
pub mod Rows
-- The answer of a call that tells it.
pub mod Told
