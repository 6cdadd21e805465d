-- Every lookup of a run lies inside its table.
pub mod Inside
-- Every sum stays below 2 ^ 53: distance, load, time, lateness and pay; then costs, and what the improvers reckon.
pub mod BoundLaws
pub mod CostBoundLaws
-- Every number of a list that a call writes is one that a byte holds.
pub mod InBytes
