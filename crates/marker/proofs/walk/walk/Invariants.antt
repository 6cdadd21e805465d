-- `walk::walk` meets its contract. The loop's invariant: the walk through the calls that are left, from here, ends as the whole walk does. Assumes nothing.
use mathlib.Core.Path.{◌≡◌}
use Prim.Native.Nat.{◌+◌}
use lib.ListN.{drop}
use Rattle.models.specs.Records.{rest_of}
use Rattle.evaluation.specs.Records.{lent}
use Rattle.marker.specs.Walking.{walk_f}
use Rattle.marker.proofs.walk.walk.Given as goal

abbrev pub invariant-loop-i : goal.invariant-loop-i
invariant-loop-i l =
    walk_f (lent l.customers l.distances l.times l.size) (rest_of l.rest) l.run l.place (l.i + 1) l.distance l.prev l.label (drop l.i l.calls)
    ≡ walk_f (lent l.customers l.distances l.times l.size) (rest_of l.rest) l.run l.place 1 l.initial.distance l.initial.prev l.initial.label l.calls
