-- What the contracts of the records cite.
pub mod Records
pub mod Seen
pub mod Tally
pub mod Closing
