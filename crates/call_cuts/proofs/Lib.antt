-- The cutting of a tour.
mod SplitCase
mod CutAnswers
-- The marker.
mod MarkCase
mod MarkAnswers
