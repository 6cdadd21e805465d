-- A place and the legs, written into lists of numbers and read from them; and the tables that the lists stand for.
pub mod Places
pub mod Legs
pub mod ReadBack
pub mod Listed
