-- The lengths that a call asks for, and its run ends and break places.
pub mod Needs
-- Which customers have been called.
pub mod Called
-- Tests with their numbers.
pub mod First
