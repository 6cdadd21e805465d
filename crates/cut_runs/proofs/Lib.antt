-- Branches on what a call answers.
pub mod Branches
-- Along a stretch of calls: which of its beginnings fit, and what a row of the table keeps.
pub mod Fitting
pub mod Along
-- Stretches that begin alike, closed legs, the clocks and the labels of all break places along a stretch, and where a row ends.
pub mod Alike
pub mod Local
pub mod Roads
pub mod Clocks
pub mod Placing
pub mod Ends
-- A call in the lists of numbers.
pub mod Calls
-- What a row keeps: over number lists, at a call, and by loads alone.
pub mod Going
pub mod Calling
pub mod LoadAlong
