-- The answers of the evaluations of a run.
pub mod Evaluating
-- The answer of the visits of a run.
pub mod Visiting
