-- What the proofs of the timed calls share.
pub mod Ends
pub mod Sheets
pub mod Left
