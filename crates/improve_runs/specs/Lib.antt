-- Run lists in two lists.
pub mod RunLists
-- The first of the least.
pub mod Least
