-- Whole numbers in an `f64`, and what stands beside them.
pub mod Whole
pub mod Value
pub mod Larger
pub mod Infinity
pub mod Order
pub mod Signed
pub mod Difference
pub mod Half
pub mod Gain
