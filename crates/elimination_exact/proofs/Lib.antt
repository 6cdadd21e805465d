-- The first that passes in a stable sort.
pub mod FirstLeast
-- Runs of a sheet, what a customer adds in them, and the candidates for it.
pub mod GoodRuns
pub mod CostExact
pub mod CandidatesExact
-- The best of them, and the runs that are left.
pub mod PlaceExact
pub mod EliminationExact
