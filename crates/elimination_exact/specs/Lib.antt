-- A sheet of whole numbers, held in floats.
pub mod Image
