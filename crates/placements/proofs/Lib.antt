-- The way with the break at a call, step by step.
pub mod Resting
-- The choice of the placement.
pub mod Choosing
-- From floats to whole numbers.
pub mod PickExact
pub mod PlacedExact
