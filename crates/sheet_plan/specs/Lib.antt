-- The plan in whole numbers, what it leaves in the lists, and the breaks as the code finds them.
pub mod Cut
pub mod Plan
pub mod Breaks
