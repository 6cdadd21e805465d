-- `two_opt::reversal_delta` meets its contract. The loop's invariant: what is left of the segment, from here, comes to what the whole segment does. Assumes nothing.
use mathlib.Core.Path.{◌≡◌}
use lib.ListN.{get_or, drop}
use Rattle.distance.specs.Lookup.{number_f}
use Rattle.two_opt.specs.Delta.{turned_legs_f}
use Rattle.two_opt.proofs.two_opt.reversal_delta.Given as goal

abbrev pub invariant-loop-prev : goal.invariant-loop-prev
invariant-loop-prev l =
    let leg = number_f l.distances l.size in
    let left = l.prev-iterator.parts.rest.now in
    (l.prev-iterator.parts.size ≡ 2)
    × (turned_legs_f leg l.sum (get_or left 0 0) (drop 1 left) ≡ turned_legs_f leg l.initial.sum (get_or l.segment 0 0) (drop 1 l.segment))
