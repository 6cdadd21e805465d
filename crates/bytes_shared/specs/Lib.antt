-- What a call is lent with a sheet of whole numbers.
pub mod Lent
