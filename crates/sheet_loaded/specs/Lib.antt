-- What is held of a sheet, and what the contracts of its reading into arrays cite.
pub mod Held
pub mod Loaded
