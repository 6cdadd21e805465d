-- What the contracts share.
pub mod Calls
-- The contracts.
pub mod Cutting
pub mod Evaluating
pub mod Visiting
pub mod Marking
pub mod Reversing
pub mod Eliminating
pub mod Reading
