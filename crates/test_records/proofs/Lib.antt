-- The lengths of a record.
pub mod Fitting
-- The tally of a run.
pub mod Counting
-- The closing lines of some runs, computed.
pub mod ClosingCases
