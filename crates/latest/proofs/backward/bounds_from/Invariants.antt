-- `backward::bounds_from` meets its contract. Assumes nothing.
use Rattle.latest.proofs.Walking.{Back}
use Rattle.latest.specs.Floats.{day_in, times_in}
use Rattle.cut_stops.specs.Stops.{numbers, listed}
use Rattle.latest.proofs.backward.bounds_from.Given as goal

abbrev pub invariant-loop-i : goal.invariant-loop-i
invariant-loop-i l = Back (listed (numbers l.codes l.figures) l.distances l.times l.size) (day_in l.day) l.route l.pos l.i l.next (times_in l.bounds)
