-- A call as one step.
pub mod Calling
pub mod Keeping
-- The tokens of lifetimes, as a callee asks them.
pub mod Tokens
-- A walk's end.
pub mod Leaving
-- The locals as one item, and lent lists that are borrowed again.
pub mod Locals
pub mod Reborrowing
