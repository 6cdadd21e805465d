-- The legs of a stretch that is turned.
pub mod TurnedLegs
-- One reversal, and the search for reversals, step by step.
pub mod Trying
pub mod Passing
-- On a sheet of whole numbers within the limits all that is that of crates/definitions.
pub mod DeltaExact
pub mod FarExact
pub mod TwoOptExact
