-- Which calls are dropped.
pub mod Drops
-- What the drops do to the table.
pub mod Refill
