-- What a record shows, by its kind.
pub mod Replayed
