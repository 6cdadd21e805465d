-- Each figure of a timeline on a sheet within the limits is told as it is.
pub mod ToldExact
-- How many lines there are at the most, and the loop over the runs.
pub mod Counts
pub mod RunTurns
-- The runs of a cutting on the sheet in memory.
pub mod RunsExact
-- The run ends of a text as bytes, and any bytes.
pub mod EndBytes
pub mod Said
