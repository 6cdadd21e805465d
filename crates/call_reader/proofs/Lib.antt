-- The reader.
pub mod ReadAnswers
