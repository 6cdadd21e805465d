-- The first word of a kind.
pub mod Seeking
-- The parts of a sheet, each number held in a float.
pub mod Parts
-- A result written as far as there is room.
pub mod Fitting
-- What the reading says before the parts are written.
pub mod Summary
