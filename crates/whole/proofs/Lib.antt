-- The laws of whole numbers in an `f64`.
pub mod Numbers
pub mod Fractions
pub mod WholeLaws
pub mod Bits
pub mod ValueLaws
pub mod LargerLaws
pub mod InfinityLaws
-- Order and sums of all floats that are no NaN and not negative, and `<` on any.
pub mod OrderLaws
pub mod LessThan
pub mod Monotone
-- Below zero, and the gain floor.
pub mod Integers
pub mod SignedLaws
pub mod DifferenceLaws
pub mod HalfLaws
pub mod GainLaws
