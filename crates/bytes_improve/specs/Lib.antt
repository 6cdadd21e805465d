-- What the improvers leave on a sheet.
pub mod Improve
