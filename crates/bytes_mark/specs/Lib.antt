-- The mark on a sheet, and what is asked of a verdict whose values are written.
pub mod Mark
pub mod Values
