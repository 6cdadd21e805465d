-- What is reckoned of a table of distances, and what an improver is told of a sheet, on floats.
pub mod Gain
pub mod Search
-- The distance of a run, a leg, and a run whose first calls are fixed, on floats.
pub mod Route
pub mod Leg
pub mod Prefix
