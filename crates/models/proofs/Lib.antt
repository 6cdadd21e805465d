-- On whole numbers up to 2 ^ 53 the windows and limits on floats are those of the definitions.
pub mod Exact
-- The depot's record is the definitions' depot.
pub mod Depot
