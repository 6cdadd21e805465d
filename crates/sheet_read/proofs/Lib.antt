-- The search for a kind, and what a loop over its words passes.
pub mod Seeking
pub mod Picking
-- Writing at the front of a lent list.
pub mod Fitting
pub mod Writing
-- The words of one customer.
pub mod Owning
-- The reading by its outcome.
pub mod Reading
-- An accepted sheet is written whole.
pub mod Accepted
