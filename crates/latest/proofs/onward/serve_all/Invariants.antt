-- `onward::serve_all` meets its contract. Assumes nothing.
use Rattle.latest.specs.Floats.{day_in, times_in, serves_f}
use Rattle.cut_stops.specs.Stops.{numbers, listed}
use lib.ListN.{drop}
use mathlib.Core.Path.{◌≡◌}
use Rattle.latest.proofs.onward.serve_all.Given as goal

abbrev pub invariant-loop-cid : goal.invariant-loop-cid
invariant-loop-cid l =
    serves_f (listed (numbers l.codes l.figures) l.distances l.times l.size) (day_in l.day) (times_in l.left) l.last (drop l.cid-index l.calls)
    ≡ serves_f (listed (numbers l.codes l.figures) l.distances l.times l.size) (day_in l.day) (times_in l.initial.left) l.initial.last l.calls
