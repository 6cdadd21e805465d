-- Rows that are filled again.
pub mod Noting
pub mod Refilling
pub mod Clearing
pub mod Again
-- The calls that cannot be cut, dropped.
pub mod Settling
pub mod Turns
