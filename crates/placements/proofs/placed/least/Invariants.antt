-- `placed::least` meets its contract. The loop's invariant: the best so far is that of none and the first k calls. Assumes nothing.
use mathlib.Core.Path.{◌≡◌}
use Rattle.models.specs.Records.{break_of}
use Rattle.evaluation.specs.Records.{lent, limits_of}
use Rattle.placements.specs.Placed.{least_to_f}
use Rattle.placements.proofs.placed.least.Given as goal

abbrev pub invariant-loop-k : goal.invariant-loop-k
invariant-loop-k l =
    l.best ≡ least_to_f (lent l.customers l.distances l.times l.size) (break_of l.rest) (limits_of l.limits) l.route l.k
