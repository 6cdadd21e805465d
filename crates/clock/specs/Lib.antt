-- What the clock's structs and enums hold.
pub mod Records
-- Serving a call and the break clock on floats, as the code has them.
pub mod Serving
pub mod Clock
-- The end of a run with one of its break places, and the better of two.
pub mod Least
-- Labels, totals and clocks of whole numbers, held in floats.
pub mod Image
