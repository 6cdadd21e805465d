-- `stops::work_out_calls` meets its contract. The loop's invariant is `StopsTo`: the places of the first calls stand in the lists. Assumes nothing.
use Rattle.evaluation.specs.Records.{lent}
use Rattle.cut_stops.specs.Stops.{numbers, StopsTo}
use Rattle.cut_stops.proofs.stops.work_out_calls.Given as goal

abbrev pub invariant-loop-c : goal.invariant-loop-c
invariant-loop-c l = StopsTo (lent l.customers l.distances l.times l.size) l.calls (numbers l.codes l.figures) l.c-index
