-- The totals of a run with its break at each place in turn, the best of them, and the evaluation by either placement, on floats as the code
-- has them. Definitions only.
use Rattle.std.specs.Prelude.{ℕ, zero, suc, List, length, get_or, take, drop, Float, Option, None, Some}
use Rattle.std.specs.Float.Ieee as Ieee
use Rattle.std.specs.Float.{binary64}
use Rattle.basics.specs.Options.{◌>>=◌, given}
use Rattle.definitions.specs.Sheet.{BreakOf}
use Rattle.models.specs.declared.placement.Placement.{Placement}
use Rattle.models.specs.declared.placement.Placement.TheVariants.{Clock, Least}
use Rattle.clock.specs.declared.schedule.Scheduled.{Scheduled}
use Rattle.clock.specs.Serving.{serve_f}
use Rattle.clock.specs.Clock.{excused_f}
use Rattle.clock.specs.Least.{pick_f}
use Rattle.evaluation.specs.declared.way.Way.{Way}
use Rattle.evaluation.specs.Records.{Tables, LimitsF, EvaluationF}
use Rattle.evaluation.specs.Tables.{record_f, leg_f}
use Rattle.evaluation.specs.Way.{start_way, way_f, plain_f}
use Rattle.evaluation.specs.Route.{kept_f, allowed_f, start_f}

module _ (t : Tables) (b : BreakOf Float) where
  -- up to call number k, from 0, with the break there
  unfoldable pub rested_f : List ℕ → ℕ → Option Way
  rested_f calls k = do
    d ← way_f t start_way (take k calls)
    g ← leg_f t d.prev (get_or calls k 0)
    l ← serve_f (record_f t (get_or calls k 0)) (Some b) (suc k) g.time d.label
    Some (record { distance = Ieee.add binary64 d.distance g.distance; label = l; prev = get_or calls k 0 })

  module _ (limits : LimitsF) (calls : List ℕ) where
    -- the totals with the break at call number k, from 0, where they keep the limits
    unfoldable pub placed_f : ℕ → Option Scheduled
    placed_f k = kept_f limits (rested_f calls k >>= λ w. plain_f t w (drop (suc k) calls))

    -- without a break, where the run needs none
    unfoldable pub unplaced_f : Option Scheduled
    unplaced_f = plain_f t start_way calls >>= λ s. kept_f limits (given (excused_f b s.duration) s)

    -- the best of none and the first k calls; of equals the first
    unfoldable pub least_to_f : ℕ → Option Scheduled
    least_to_f zero = unplaced_f
    least_to_f (suc k) = pick_f (least_to_f k) (placed_f k)

    -- of all places
    abbrev pub least_f : Option Scheduled
    least_f = least_to_f (length calls)

-- the totals of a run that keeps the limits, by the placement; without a break both are the same
module _ (t : Tables) (limits : LimitsF) where
  abbrev pub least_by : Option (BreakOf Float) → List ℕ → Option Scheduled
  least_by None calls = allowed_f t limits calls
  least_by (Some b) calls = least_f t b limits calls

  unfoldable pub totals_by : Placement → List ℕ → Option Scheduled
  totals_by Clock calls = allowed_f t limits calls
  totals_by Least calls = least_by limits.rest calls

  unfoldable pub eval_by : Placement → List ℕ → Option EvaluationF
  eval_by placement calls =
      totals_by placement calls >>= λ s. Some (record { totals = s; start = start_f t limits.rest s.place calls })
