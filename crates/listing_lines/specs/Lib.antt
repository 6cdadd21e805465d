-- What the contracts of the listing's text cite.
pub mod Put
pub mod Lines
pub mod Number
pub mod Plan
