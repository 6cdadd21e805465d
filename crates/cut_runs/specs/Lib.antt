-- A stretch of calls, and the runs along it, on floats.
pub mod Stretch
pub mod Tariff
-- The runs with the break at each place in turn, and by windows, limits and break.
pub mod Places
pub mod Runs
