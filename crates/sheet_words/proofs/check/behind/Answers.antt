-- `check::behind` meets its contract. Assumes nothing.
use native.Mathlib.Omega.{arith}
use Rattle.definitions.specs.Words.{words_of, left_over}
use Rattle.sheet_words.proofs.Walking.{behind-words}
use Rattle.sheet_words.proofs.check.behind.Goals as goal

pub returns-then-i-word_count : goal.returns-then-i-word_count
returns-then-i-word_count c = let a = c.args in behind-words (words_of a.bytes.now) (left_over a.bytes.now) a.i (omega (arith, c.word_count.ensures))
