-- What stands in an array after `widen`, and what `narrow` stores of one.
pub mod Widened
pub mod Narrowed
