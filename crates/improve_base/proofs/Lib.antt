-- Tests over counted places, and sums over what is left of a list.
pub mod Counting
pub mod Reckoning
-- Records in lists.
pub mod ListedRecords
-- Tables that close no leg.
pub mod OpenLegs
-- A run whose first calls are fixed.
pub mod Onward
pub mod Leading
-- On tables and sheets of whole numbers within the limits all that is that of crates/definitions.
pub mod LegExact
pub mod GainExact
pub mod RouteExact
pub mod FarExact
