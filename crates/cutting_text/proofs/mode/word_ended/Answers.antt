-- `mode::word_ended` meets its contract. Assumes nothing.
use native.Mathlib.Omega.{arith}
use Rattle.cutting_text.specs.Modes.{letters_of, after_of}
use Rattle.cutting_text.proofs.Spelling.{not-ended}
use Rattle.cutting_text.proofs.mode.word_ended.Goals as goal

pub returns-then-i-letter_count : goal.returns-then-i-letter_count
returns-then-i-letter_count c = let a = c.args in λ s. not-ended (letters_of a.w) (after_of a.w) a.i _ (omega (arith, c.if-i-letter_count.true, c.letter_count.ensures))
