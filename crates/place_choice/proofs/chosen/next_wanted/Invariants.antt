-- `chosen::next_wanted` meets its contract. The loop's invariant: no place before number pos is wanted. Assumes nothing.
use Prim.Native.Nat.{ℕ, suc, ◌<◌, ◌≤◌}
use mathlib.Core.Path.{◌≡◌}
use mathlib.Core.Bool.{false}
use lib.ListN.{length}
use Rattle.distance.specs.Lookup.{number_f}
use Rattle.place_choice.specs.Insertion.{wanted_f, adds_f}
use Rattle.place_choice.proofs.chosen.next_wanted.Given as goal

abbrev pub invariant-loop-pos : goal.invariant-loop-pos
invariant-loop-pos l =
    (l.from ≤ l.pos) × (l.pos ≤ suc (length l.route))
    × ((j : ℕ) → l.from ≤ j → j < l.pos → wanted_f l.mover l.best (adds_f (number_f l.distances l.size) l.route j l.mover.call) ≡ false)
