-- What the contracts of the timed calls cite.
pub mod Every
pub mod Work
