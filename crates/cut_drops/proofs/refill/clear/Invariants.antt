-- `refill::clear` meets its contract. The loop's invariant is `Clearing`: the cells up to k are cleared. Assumes nothing.
use mathlib.Core.Bool.{false}
use lib.Ieee.{inf, nan}
use Rattle.whole.specs.Whole.{fl}
use Rattle.cut_drops.proofs.Clearing.{Clearing}
use Rattle.cut_drops.proofs.refill.clear.Given as goal

abbrev pub invariant-loop-k : goal.invariant-loop-k
invariant-loop-k l =
    Clearing l.from l.k (inf false) nan l.initial.cost l.cost × Clearing l.from l.k (fl 0) nan l.initial.dist l.dist × Clearing l.from l.k 0 0 l.initial.pred l.pred
