-- What a row with a break at its best place keeps.
pub mod LeastAlong
