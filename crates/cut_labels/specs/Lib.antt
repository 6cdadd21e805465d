-- Labels in lists of numbers.
pub mod Labels
