-- Tables row by row.
pub mod Rows
-- Ready above due and earliest above latest, on floats.
pub mod Falling
-- Closed legs.
pub mod ClosedLegs
-- The tests of a customer's record.
pub mod Customers
