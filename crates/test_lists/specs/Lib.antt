-- What the contracts of the answers on run lists cite.
pub mod Answers
