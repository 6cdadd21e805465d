-- Rows written one by one.
pub mod Writing
-- The refusal of a run and its break place.
pub mod Refusing
-- The answer of `time_run`.
pub mod Timed
-- On the sheet in memory the answer is that of the definitions.
pub mod Figured
pub mod OnSheet
