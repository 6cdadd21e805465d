-- `way::first_closed` meets its contract. The loop's invariant: the first closed leg from here on is that of the run. Assumes nothing.
use mathlib.Core.Path.{◌≡◌}
use Prim.Native.Nat.{◌+◌}
use lib.ListN.{drop}
use Rattle.distance.specs.Lookup.{drive_f}
use Rattle.evaluation.specs.Way.{closed_f}
use Rattle.evaluation.proofs.way.first_closed.Given as goal

abbrev pub invariant-loop-i : goal.invariant-loop-i
invariant-loop-i l =
    closed_f (drive_f l.distances l.times l.size) (l.i + 1) l.prev (drop l.i l.route) ≡ closed_f (drive_f l.distances l.times l.size) 1 0 l.route
