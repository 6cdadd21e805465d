-- The cut of a sheet that is held.
pub mod CutHeld
-- The runs of the planner's result, and how many there are.
pub mod PlanRuns
pub mod PlanRoom
-- The breaks of the runs, and the plan as it is left.
pub mod BreakTurns
pub mod BreaksFound
pub mod Planning
-- The plan stored in bytes.
pub mod PlanStored
