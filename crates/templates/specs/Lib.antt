-- What the contracts of templates cite.
pub mod Fill
