-- Lists that are the same.
pub mod Same
-- A text at the front of a buffer.
pub mod Front
-- Reading along a recorded text.
pub mod Along
-- The loop over a run list.
pub mod Turns
-- A sheet that the improvers take.
pub mod Open
-- The runs left by elimination.
pub mod Left
