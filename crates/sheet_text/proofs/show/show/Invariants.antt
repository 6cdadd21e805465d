-- `show::show` meets its contract. Assumes nothing.
use Rattle.definitions.specs.Words.{words_of}
use Rattle.sheet_text.proofs.Showing.{Shown}
use Rattle.sheet_text.proofs.show.show.Given as goal

abbrev pub invariant-loop-i : goal.invariant-loop-i
invariant-loop-i l = Shown (words_of l.bytes) l.initial.out l.out l.state l.end l.i
