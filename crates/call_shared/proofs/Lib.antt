-- The array in place of the customers lent, refused and accepted calls.
pub mod Padded
pub mod Accepting
pub mod CallAnswers
