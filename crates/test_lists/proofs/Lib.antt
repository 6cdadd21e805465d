-- A recorded text that is read to its end.
pub mod Whole
-- A sheet that is held, and what its bytes say.
pub mod Held
-- The lists of a cut.
pub mod CutLists
-- Bytes that are written as numbers.
pub mod Numbers
-- A question by its parts.
pub mod Asked
