-- Whether a run has room for one more.
pub mod Loads
-- Where a customer may go, and what it adds there.
pub mod Insertion
