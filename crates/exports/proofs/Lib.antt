-- What the proofs of the exported calls share.
pub mod Answering
-- What each call keeps.
pub mod PlanAnswers
pub mod Marked
pub mod Improved
pub mod Visited
