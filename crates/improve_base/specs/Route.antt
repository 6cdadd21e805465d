-- The distance of a run on floats, in the code's order of sums. Definitions only.
use Rattle.std.specs.Prelude.{ℕ, cond, List, [], ◌∷◌, Float}
use Rattle.std.specs.Float.Ieee as Ieee
use Rattle.std.specs.Float.{binary64}
use Rattle.basics.specs.Options.{present}
use Rattle.whole.specs.Whole.{fl}
use Rattle.evaluation.specs.Records.{LimitsF}

module _ (leg : ℕ → ℕ → Float) where
  -- from a through the calls and home, on top of what is gone already
  unfoldable pub home_f : Float → ℕ → List ℕ → Float
  home_f far a [] = Ieee.add binary64 far (leg a 0)
  home_f far a (c ∷ cs) = home_f (Ieee.add binary64 far (leg a c)) c cs

  -- a run without calls has no distance
  unfoldable pub route_distance_f : List ℕ → Float
  route_distance_f [] = fl 0
  route_distance_f (c ∷ cs) = home_f (leg 0 c) c cs

-- reckoned where it is limited
unfoldable pub far_f : LimitsF → (ℕ → ℕ → Float) → List ℕ → Float
far_f limits leg run = cond (present limits.max_distance) (route_distance_f leg run) (fl 0)
