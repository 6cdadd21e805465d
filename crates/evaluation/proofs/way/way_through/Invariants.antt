-- `way::way_through` meets its contract. The loop's invariant: what is left of the way, from here, ends as the whole way does. Assumes nothing.
use mathlib.Core.Path.{◌≡◌}
use lib.ListN.{drop}
use Rattle.evaluation.specs.Records.{lent}
use Rattle.evaluation.specs.Way.{way_f}
use Rattle.evaluation.proofs.way.way_through.Given as goal

abbrev pub invariant-loop-cid : goal.invariant-loop-cid
invariant-loop-cid l =
    way_f (lent l.customers l.distances l.times l.size) l.way (drop l.cid-index l.calls) ≡ way_f (lent l.customers l.distances l.times l.size) l.initial.way l.calls
