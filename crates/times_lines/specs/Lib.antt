-- What the contracts of a timeline's lines cite.
pub mod Told
