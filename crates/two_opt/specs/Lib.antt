-- What the reversals of a run are told, what a reversal changes in the distance, and the search for reversals, on floats.
pub mod Rules
pub mod Delta
pub mod TwoOpt
