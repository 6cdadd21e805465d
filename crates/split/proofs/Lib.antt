-- What is lent, without windows, penalties, limits and break.
pub mod Bare
