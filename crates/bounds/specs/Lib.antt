-- What is known of a sheet within the limits.
pub mod Sized
-- The bounds: of distance, load, time, lateness and pay; then of costs, and of what the improvers reckon.
pub mod Bounds
pub mod CostBounds
