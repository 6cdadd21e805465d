-- What the contracts of the exported calls cite: what they share.
pub mod Answer
-- What each call answers and keeps.
pub mod Plan
pub mod Mark
pub mod Improve
pub mod Visits
