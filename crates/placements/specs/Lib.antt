-- The placement that is meant.
pub mod Chosen
-- The evaluation of a run by either placement of its break.
pub mod Placed
