-- A call more, forward and back.
pub mod Ways
-- Calls one after the other.
pub mod Walking
-- In whole numbers.
pub mod Bounding
pub mod ClockTimes
-- Held in floats.
pub mod FloatTimes
pub mod InsertionExact
