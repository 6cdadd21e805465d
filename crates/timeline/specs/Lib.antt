-- The timeline of a run on floats, as the code has it.
pub mod Timing
-- A timeline of whole numbers, held in floats.
pub mod Image
