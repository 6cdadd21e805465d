-- The improvers on the sheet in memory.
pub mod Improved
