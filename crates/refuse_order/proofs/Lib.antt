-- Refusal 1 in its own order.
pub mod Ranging
-- A repeat by notes.
mod Repeating
-- Accepted sheets are images of whole numbers.
pub mod Image
-- Floats of the format in the code's records.
mod Fitting
-- The refusals in order.
pub mod Deciding
