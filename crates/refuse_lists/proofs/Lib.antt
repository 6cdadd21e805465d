-- Notes of the customers called.
pub mod Calling
-- The code's numbers and tests as one list of refusals.
pub mod Numbers
