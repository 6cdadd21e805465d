-- An answer in whole numbers, held in floats.
pub mod Image
-- Load and way of a stretch, and two tables of which the one is the image of the other.
pub mod StretchExact
pub mod SameTable
pub mod TableExact
-- On a sheet within the limits the clocks, the break places, the runs, the drops and the answers are those of crates/definitions.
pub mod ClocksExact
pub mod PlacesExact
pub mod SplitTwExact
pub mod DropsExact
pub mod BareImage
pub mod Exact
