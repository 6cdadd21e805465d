-- `gain::call_symmetric` meets its contract. The loop's invariant: the legs to and from the calls that are left are equal exactly when
-- those of all after number i are. Assumes nothing.
use mathlib.Core.Path.{◌≡◌}
use Prim.Native.Nat.{◌+◌}
use lib.ListN.{get_or, drop}
use Rattle.distance.specs.Lookup.{number_f}
use Rattle.improve_base.specs.Gain.{all_equal_f}
use Rattle.improve_base.proofs.gain.call_symmetric.Given as goal

abbrev pub invariant-loop-other : goal.invariant-loop-other
invariant-loop-other l =
    let one = get_or l.calls l.i 0 in
    all_equal_f (number_f l.distances l.size) one (drop l.other-index l.other-items) ≡ all_equal_f (number_f l.distances l.size) one (drop (l.i + 1) l.calls)
