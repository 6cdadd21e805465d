-- Run evaluation: what `route_feasible`, `route_eval` and `effective_cost` answer. They don't look at load, and an empty run
-- is the leg from depot to depot. A run with a closed leg is not
-- allowed. Definitions only.
use Rattle.std.specs.Prelude.{ℕ, ◌+◌, Bool, List, Option, Some}
use Rattle.basics.specs.Options.{◌>>=◌, present, given}
use Rattle.definitions.specs.Sheet.{Sheet}
use Rattle.definitions.specs.Run.{Totals, allowed}
use Rattle.definitions.specs.Clock.{clock, start_of}
use Rattle.definitions.specs.Placement.{Placement, by_clock, by_pay, least_ride}

-- what a run that is allowed comes to
pub record Evaluation : Type 0 where
  -- distance, duration, lateness, lateness pay and break place
  pub totals : Totals
  -- when the break starts, if there is one
  pub start : Option ℕ

-- of a run that comes to t; none where it is not allowed
abbrev pub eval_of : Sheet → List ℕ → Totals → Option Evaluation
eval_of s calls t = given (allowed s t) (record { totals = t; start = start_of s (record { calls = calls; place = t.place }) })

-- by the clock
unfoldable pub route_eval : Sheet → List ℕ → Option Evaluation
route_eval s calls = clock s calls >>= eval_of s calls

-- by the least lateness pay
unfoldable pub least_eval : Sheet → List ℕ → Option Evaluation
least_eval s calls = least_ride s calls >>= eval_of s calls

-- for either placement
abbrev pub eval_by : Placement → Sheet → List ℕ → Option Evaluation
eval_by by_clock s calls = route_eval s calls
eval_by by_pay s calls = least_eval s calls

unfoldable pub route_feasible : Sheet → List ℕ → Bool
route_feasible s calls = present (route_eval s calls)

-- the distance plus the lateness pay, with no fixed cost; none is infinite
unfoldable pub effective_cost : Sheet → List ℕ → Option ℕ
effective_cost s calls = do
  e ← route_eval s calls
  Some (e.totals.distance + e.totals.pay)
