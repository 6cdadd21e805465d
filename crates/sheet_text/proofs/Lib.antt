-- The words shown so far.
pub mod Showing
