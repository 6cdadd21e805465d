-- The ways through a lookup.
pub mod Ways
-- On tables of whole numbers a lookup inside the table is that of the definitions.
pub mod Exact
