-- `gain::scale` meets its contract. The loop's invariant: the largest of what is left, four at a time, and of what was found, is that of the
-- whole table. Assumes nothing.
use Prim.Native.Nat.{◌*◌}
use mathlib.Core.Path.{◌≡◌}
use lib.ListN.{drop}
use Rattle.improve_base.specs.Gain.{largest_by_four_f, scale_f}
use Rattle.improve_base.proofs.gain.scale.Given as goal

abbrev pub invariant-loop-a : goal.invariant-loop-a
invariant-loop-a l = largest_by_four_f l.first l.second l.third l.fourth (drop (l.a-index * 4) l.distances) ≡ scale_f l.distances
