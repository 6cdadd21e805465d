-- The two cuts with their lists in bytes.
pub mod Stored
-- The answers of the cutting of a tour.
pub mod Cutting
-- The answer of the marker.
pub mod Marking
