-- `customers::own_value` meets its contract. Assumes nothing.
use mathlib.Core.Path.{◌≡◌}
use lib.ListN.{drop}
use Rattle.definitions.specs.Words.{words_of}
use Rattle.sheet_read.proofs.Owning.{own_first}
use Rattle.sheet_read.proofs.customers.own_value.Given as goal

abbrev pub invariant-loop-i : goal.invariant-loop-i
invariant-loop-i l = own_first l.kind (drop l.i (words_of l.bytes)) ≡ own_first l.kind (drop l.from (words_of l.bytes))
