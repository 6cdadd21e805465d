-- Lists at the front of arrays and of lent lists.
pub mod Fronts
pub mod Shifting
-- Run lists in two lists: what they hold, and what a changed one holds.
pub mod Holding
pub mod RunParts
pub mod Changing
pub mod Keeping
-- The first of the least, taken out, and what is sorted so.
pub mod Least
pub mod Sorting
