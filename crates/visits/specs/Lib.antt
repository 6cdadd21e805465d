-- Visits and the walk through the calls on floats, as the code has them.
pub mod Visiting
-- Violations, in their order.
pub mod Violations
-- The whole answer of `build_route` on floats.
pub mod Building
-- A route of whole numbers, held in floats.
pub mod Image
-- A violation by its number and values.
pub mod Figures
