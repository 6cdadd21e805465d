-- What calls ask for, and a vehicle holds.
pub mod Load
-- The code's records as those of the definitions.
pub mod Records
-- Windows and limits on floats, as the code has them.
pub mod Window
pub mod Limits
-- Records of whole numbers, held in floats.
pub mod Image
