-- The walk through a run, the mark of a run and that of a cutting on floats, as the code has them.
pub mod Walking
pub mod RunMark
pub mod Marks
-- Verdicts of whole numbers, held in floats.
pub mod Image
-- A verdict by its number and values.
pub mod Figures
