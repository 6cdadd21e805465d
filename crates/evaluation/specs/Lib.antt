-- What the code's structs and enums hold, and what is looked up for a call.
pub mod Records
pub mod Tables
-- The clock over the calls of a run, on floats, as the code has it.
pub mod Schedule
-- The way with no break, and the evaluations of a run, on floats.
pub mod Way
pub mod Route
-- Whether `route_feasible` has to be asked.
pub mod Checks
-- A sheet of whole numbers, and what its runs come to, held in floats.
pub mod Image
