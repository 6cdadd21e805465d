-- A run that may go: what it saves, and what its customers add elsewhere. Assumes nothing.
use Prim.Native.Nat.{ℕ}
use mathlib.Core.Path.{◌≡◌, refl, ap, ap₂, ◌∙◌}
use mathlib.Core.Bool.{true, false, false≢true}
use mathlib.Core.List.{List}
use Rattle.std.specs.Prelude.{Option, None, Some, option_map}
use lib.Ieee as Ieee
use lib.Ieee.{Float, binary64}
use Rattle.basics.specs.Options.{Holds, given}
use Rattle.definitions.specs.Sort.{sort}
use Rattle.definitions.specs.Elimination.{Parted}
use Rattle.whole.specs.Whole.{fl}
use Rattle.improve_runs.specs.Least.{by_seats}
use Rattle.improve_base.specs.Route.{route_distance_f}
use Rattle.place_choice.specs.Insertion.{GivenF, leg_f, demand_f}
use Rattle.route_elimination.specs.Placing.{PlacedF, is_all, placed_of, place_all_f}
use Rattle.route_elimination.specs.Elimination.{finite_f, saved_f, emptied_f}

-- the run as it is lent, and what it saves
pub saved-is : (T : GivenF) (part run : List ℕ) → part ≡ run → (far : Float) → far ≡ route_distance_f (leg_f T) part
    → Ieee.add binary64 far T.fixed ≡ saved_f T run
saved-is T part run e far ef = ap (λ (x : Float). Ieee.add binary64 x T.fixed) (ef ∙ ap (route_distance_f (leg_f T)) e)

-- its customers placed in these runs
abbrev pub moved_f : GivenF → Float → List ℕ → List (List ℕ) → Option PlacedF
moved_f T saved run rest = place_all_f T (fl 0) saved (sort (by_seats (demand_f T)) run) rest

pub moved-is : (T : GivenF) (saved : Float) (part run : List ℕ) → part ≡ run → (rest others : List (List ℕ)) → rest ≡ others
    → moved_f T saved part rest ≡ moved_f T saved run others
moved-is T saved part run e rest others er = ap₂ (moved_f T saved) e er

-- the run goes when its customers are placed
module _ (T : GivenF) (p : Parted) (saved : Float) (es : saved ≡ saved_f T p.run) where
  pub not_finite : finite_f saved ≡ false → None ≡ emptied_f T p
  unfolding emptied_f
  not_finite f = let g = rw es at f in rw g

  pub found : finite_f saved ≡ true → (q : Option PlacedF) → q ≡ moved_f T saved p.run p.rest → option_map (λ (r : PlacedF). r.runs) q ≡ emptied_f T p
  unfolding emptied_f
  found fin q eq =
      let g = rw es at fin in
      rw g (ap (option_map (λ (r : PlacedF). r.runs)) (eq ∙ ap (λ (x : Float). moved_f T x p.run p.rest) es))

-- what is answered of the runs with the customers placed
pub answered-runs : (p : (Option Float)) (runs : List (List ℕ)) → given (is_all p) runs ≡ option_map (λ (r : PlacedF). r.runs) (placed_of p runs)
answered-runs None runs = refl
answered-runs (Some added) runs = refl

pub answered-sound : (X : Type 0) (p : (Option Float)) (runs : List (List ℕ)) → Holds (λ (q : PlacedF). X) (placed_of p runs) → is_all p ≡ true → X
answered-sound X None runs h e = absurd (false≢true e)
answered-sound X (Some added) runs h e = h
