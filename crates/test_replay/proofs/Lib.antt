-- A question by its kind.
pub mod Asked
