-- The words of a file by index.
pub mod ByIndex
-- The distances whose times have yet to come, by index.
pub mod Facing
-- Products that fit.
pub mod Products
-- Which kinds may stand behind which.
pub mod Standing
-- The reading by index.
pub mod Walking
