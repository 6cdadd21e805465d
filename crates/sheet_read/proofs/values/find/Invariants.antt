-- `values::find` meets its contract. Assumes nothing.
use Prim.Native.Nat.{◌+◌}
use mathlib.Core.Path.{◌≡◌}
use lib.ListN.{drop}
use Rattle.definitions.specs.Words.{words_of}
use Rattle.sheet_read.specs.Seeking.{before}
use Rattle.sheet_read.proofs.values.find.Given as goal

abbrev pub invariant-loop-i : goal.invariant-loop-i
invariant-loop-i l = l.i + before l.kind (drop l.i (words_of l.bytes)) ≡ l.from + before l.kind (drop l.from (words_of l.bytes))
