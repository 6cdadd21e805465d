-- What a row without a break keeps.
pub mod PlainAlong
