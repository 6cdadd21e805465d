-- `evaluator::walk` meets its contract. The loop's invariant: what is written and what is left of the walk make the whole. Assumes nothing.
use Rattle.evaluation.specs.Records.{lent}
use Rattle.visits.specs.Visiting.{rest_at_of, trip_of}
use Rattle.visits.proofs.Walking.{Underway}
use Rattle.visits.proofs.evaluator.walk.Given as goal

abbrev pub invariant-loop-i : goal.invariant-loop-i
invariant-loop-i l =
    Underway (lent l.customers l.distances l.times l.size) (rest_at_of l.rest) l.route l.visits l.list l.count (trip_of l.trip) l.i
