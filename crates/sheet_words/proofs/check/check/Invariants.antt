-- `check::check` meets its contract. Assumes nothing.
use Rattle.definitions.specs.Words.{words_of, left_over}
use Rattle.sheet_words.proofs.Walking.{Reached}
use Rattle.sheet_words.proofs.check.check.Given as goal

abbrev pub invariant-loop-i : goal.invariant-loop-i
invariant-loop-i l = Reached (words_of l.bytes) (left_over l.bytes) l.state l.called l.i
