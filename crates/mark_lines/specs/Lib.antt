-- What the contracts of a mark's text cite.
pub mod Meanings
pub mod Verdicts
