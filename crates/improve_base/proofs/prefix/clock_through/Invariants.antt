-- `prefix::clock_through` meets its contract. Assumes nothing.
use mathlib.Core.Path.{◌≡◌}
use Prim.Native.Nat.{◌+◌}
use lib.ListN.{drop}
use Rattle.cut_stops.specs.Stops.{numbers, listed}
use Rattle.improve_base.specs.declared.prefix.Prefix.TheVariants.{Clock}
use Rattle.improve_base.specs.Prefix.{prefix_of, on_all_f}
use Rattle.improve_base.proofs.prefix.clock_through.Given as goal

abbrev pub invariant-loop-cid : goal.invariant-loop-cid
invariant-loop-cid l =
    (l.timed.clock.index ≡ l.initial.timed.clock.index + l.cid-index)
    × (on_all_f (listed (numbers l.codes l.figures) l.distances l.times l.size) (prefix_of (Clock l.timed)) (drop l.cid-index l.calls)
    ≡ on_all_f (listed (numbers l.codes l.figures) l.distances l.times l.size) (prefix_of (Clock l.initial.timed)) l.calls)
