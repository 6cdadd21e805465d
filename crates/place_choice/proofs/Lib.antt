-- Places folded from the first to the last, run by run.
pub mod Folding
-- The loads of runs.
pub mod Loading
-- The places of one run that are wanted.
pub mod Wanting
-- Each place has its run.
pub mod Spots
