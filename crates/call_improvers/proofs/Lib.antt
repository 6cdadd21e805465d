-- What both have in common.
mod ImproverAnswers
-- The reversal of stretches.
mod ReversalAnswers
-- Route elimination.
mod EliminationCase
mod EliminationAnswers
