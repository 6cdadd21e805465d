-- `chosen::best_from` meets its contract. The loop's invariant is `Choosing`: number pos is the next place that is wanted. Assumes nothing.
-- ---- the places on the way
use Prim.Native.Nat.{suc, ◌-◌}
use lib.ListN.{length}
use Rattle.cut_stops.specs.Stops.{numbers}
use Rattle.latest.specs.Floats.{times_in}
use Rattle.place_choice.specs.Insertion.{given_in}
use Rattle.place_choice.proofs.Wanting.{Choosing}
use Rattle.place_choice.proofs.chosen.best_from.Given as goal

abbrev pub invariant-loop-pos : goal.invariant-loop-pos
invariant-loop-pos l =
    Choosing (given_in l.given (numbers l.codes l.figures) l.distances l.times) l.mover l.initial.found l.route l.k l.first l.found (times_in l.left) l.gone l.pos

abbrev pub decreases-loop-pos : goal.decreases-loop-pos
decreases-loop-pos l =
    suc (length l.route) - l.pos
