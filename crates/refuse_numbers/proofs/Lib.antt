-- Several tests, as code joins them.
pub mod Joining
-- Searches through lists.
mod Searching
-- Tables row by row.
pub mod Rows
-- Pairs that fall, on floats and on whole numbers.
pub mod Falling
-- Closed legs.
pub mod ClosedLegs
