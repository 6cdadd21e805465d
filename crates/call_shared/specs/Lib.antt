-- The sheet that is meant.
pub mod Meant
-- The answer, whatever customers the array was gathered from.
pub mod Answers
