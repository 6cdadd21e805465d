-- Places and legs as numbers in lists.
pub mod Stops
