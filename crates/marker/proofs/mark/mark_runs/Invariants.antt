-- `mark::mark_runs` meets its contract. The loop's invariant is `Left`: the runs that are left are marked, on top of the cost so far, as all are. Assumes nothing.
use Rattle.marker.specs.RunMark.{ground_of}
use Rattle.marker.proofs.Runs.{Left}
use Rattle.marker.proofs.mark.mark_runs.Given as goal

abbrev pub invariant-loop-k : goal.invariant-loop-k
invariant-loop-k l =
    Left (ground_of l.customers l.distances l.times l.head) l.calls l.ends l.breaks l.total l.p l.k
