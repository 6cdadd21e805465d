-- A word letter by letter; a step of the code.
pub mod Spelling
pub mod Stepped
