-- The runs given, and the loops over calls and over runs.
pub mod GivenRuns
pub mod Calls
pub mod Loading
pub mod Runs
-- On whole numbers within the limits all that is that of the definitions.
pub mod WalkExact
pub mod RunExact
pub mod MarkExact
pub mod Figures
