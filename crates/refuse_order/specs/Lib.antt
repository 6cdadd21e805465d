-- The code's head and lent lists as those of the definitions.
pub mod Lent
-- The tests of a call in groups, as the code makes them.
pub mod Order
