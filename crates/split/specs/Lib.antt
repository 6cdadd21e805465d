-- What is lent to the cut.
pub mod Split
-- The same by what the cut is lent itself.
pub mod Bare
