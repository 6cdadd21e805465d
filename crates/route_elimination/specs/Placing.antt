-- The customers of a run placed one after the other, on floats, as the code has it. Definitions only.
use Rattle.std.specs.Prelude.{ℕ, ◌≡◌, Bool, true, false, List, [], ◌∷◌, Float, Option, None, Some, option_map}
use Rattle.std.specs.Float.Ieee as Ieee
use Rattle.std.specs.Float.{binary64}
use Rattle.basics.specs.Options.{◌>>=◌, Holds}
use Rattle.improve_runs.specs.RunLists.{Runs, runs_in, Sound, put_in}
use Rattle.place_choice.specs.declared.insertion.Spot.{Spot}
use Rattle.place_choice.specs.declared.tested.Mover.{Mover}
use Rattle.place_choice.specs.Insertion.{GivenF, best_f}

-- customers have found their places: the runs with them, and what has been added so far
pub record PlacedF : Type 0 where
  pub runs : List (List ℕ)
  pub added : Float

abbrev pub placed_of : Option Float → List (List ℕ) → Option PlacedF
placed_of None runs = None
placed_of (Some added) runs = Some (record { runs = runs; added = added })

abbrev pub is_all : Option Float → Bool
is_all None = false
is_all (Some added) = true

pub record Answers (o : Option PlacedF) (p : (Option Float)) (new : Runs) : Type 0 where
  pub is : placed_of p (runs_in new) ≡ o
  pub sound : Holds (λ (q : PlacedF). Sound new) (placed_of p (runs_in new))

-- ---- the customers placed

-- the runs with c at its place
abbrev pub put_at : Mover → List (List ℕ) → Spot → PlacedF
put_at m runs x = record { runs = put_in x.run x.pos m.call runs; added = Ieee.add binary64 m.added x.cost }

abbrev pub mover_f : ℕ → Float → Float → Mover
mover_f c added saved = record { call = c; added = added; saved = saved }

module _ (G : GivenF) where
  -- c put there
  abbrev pub place_f : Float → Float → ℕ → List (List ℕ) → Option PlacedF
  place_f added saved c runs = let m = mover_f c added saved in option_map (put_at m runs) (best_f G m runs)

  -- all of the customers, one after the other
  unfoldable pub place_all_f : Float → Float → List ℕ → List (List ℕ) → Option PlacedF
  place_all_f added saved [] runs = Some (record { runs = runs; added = added })
  place_all_f added saved (c ∷ cs) runs = place_f added saved c runs >>= λ p. place_all_f p.added saved cs p.runs
