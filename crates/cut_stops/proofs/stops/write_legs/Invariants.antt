-- `stops::write_legs` meets its contract. The loop's invariant is `Written`: the legs from number `from` up to k are written. Assumes nothing.
use Rattle.distance.specs.Lookup.{drive_f}
use Rattle.cut_stops.specs.Stops.{leg_lists}
use Rattle.cut_stops.proofs.Legs.{Written}
use Rattle.cut_stops.proofs.stops.write_legs.Given as goal

abbrev pub invariant-loop-k : goal.invariant-loop-k
invariant-loop-k l =
    Written (drive_f l.distances l.times l.size) l.held l.from (leg_lists l.initial.legs l.initial.time_legs) (leg_lists l.legs l.time_legs) l.k
