-- The verdicts of the marker, by number and values.
pub mod Verdicts
pub mod Small
-- The marker on the sheet in memory.
pub mod Marked
