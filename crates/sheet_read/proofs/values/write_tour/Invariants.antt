-- `values::write_tour` meets its contract. Assumes nothing.
use mathlib.Core.List.{[]}
use Rattle.definitions.specs.Reader.{tour_of}
use Rattle.definitions.specs.Words.{words_of}
use Rattle.sheet_read.proofs.Writing.{Wrote}
use Rattle.sheet_read.proofs.values.write_tour.Given as goal

abbrev pub invariant-loop-i : goal.invariant-loop-i
invariant-loop-i l = Wrote tour_of [] (words_of l.bytes) l.initial.out l.out l.i l.n
