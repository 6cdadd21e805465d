-- `prefix::way_through` meets its contract. Assumes nothing.
use mathlib.Core.Path.{◌≡◌}
use lib.ListN.{drop}
use Rattle.cut_stops.specs.Stops.{numbers, listed}
use Rattle.improve_base.specs.Prefix.{plain, on_all_f}
use Rattle.improve_base.proofs.prefix.way_through.Given as goal

abbrev pub invariant-loop-cid : goal.invariant-loop-cid
invariant-loop-cid l =
    on_all_f (listed (numbers l.codes l.figures) l.distances l.times l.size) (plain l.way) (drop l.cid-index l.calls)
    ≡ on_all_f (listed (numbers l.codes l.figures) l.distances l.times l.size) (plain l.initial.way) l.calls
