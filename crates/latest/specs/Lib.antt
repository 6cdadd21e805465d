-- A day's times, by any numbers.
pub mod Times
-- By floats, as the code has it.
pub mod Floats
