-- The answer of a call goes by what its numbers mean, and a sheet held in floats means itself.
pub mod Meaning
pub mod InFloats
-- A call on the sheet that was read into memory.
pub mod OnSheet
