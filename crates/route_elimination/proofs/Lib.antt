-- The customers that move.
pub mod Going
-- A run that may go.
pub mod Emptying
-- What a search leaves.
pub mod Fewer
-- The search, run by run.
pub mod Ordering
pub mod Searching
-- What is written in the end.
pub mod Answering
