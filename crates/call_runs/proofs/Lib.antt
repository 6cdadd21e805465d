-- The evaluations of a run.
mod RunAnswers
mod EvalCase
-- The visits of a run.
pub mod RouteAnswers
