-- `held::number` meets its contract. The loop's invariant: the first k numbers are written. Assumes nothing.
use mathlib.Core.Path.{◌≡◌}
use lib.ListN.{length}
use Rattle.basics.specs.Lists.{count}
use Rattle.definitions.specs.Room.{written}
use Rattle.cut_table.proofs.held.number.Given as goal

abbrev pub invariant-loop-k : goal.invariant-loop-k
invariant-loop-k l = (length l.number-items ≡ l.n) × (l.number-items ≡ written (count l.from l.k) l.initial.number-items)
