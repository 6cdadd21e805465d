-- The evaluations of a run on floats, step by step as the code has them. Definitions only.
use Rattle.std.specs.Prelude.{ℕ, zero, suc, Bool, false, List, get_or, take, Float, Option, None, Some}
use Rattle.std.specs.Float.Ieee as Ieee
use Rattle.std.specs.Float.{binary64, inf}
use Rattle.basics.specs.Options.{◌>>=◌, given, present}
use Rattle.definitions.specs.Sheet.{BreakOf}
use Rattle.models.specs.Limits.{allow_f}
use Rattle.clock.specs.declared.schedule.Scheduled.{Scheduled}
use Rattle.clock.specs.Serving.{break_start_f}
use Rattle.evaluation.specs.Records.{Tables, TakenF, LimitsF, EvaluationF}
use Rattle.evaluation.specs.Tables.{leg_f}
use Rattle.evaluation.specs.Schedule.{schedule_f}
use Rattle.evaluation.specs.Way.{start_way, way_f, plain_f}

-- ---- with a break or without

unfoldable pub totals_f : Tables → Option (BreakOf Float) → List ℕ → Option Scheduled
totals_f t None calls = plain_f t start_way calls
totals_f t (Some b) calls = schedule_f t b calls

-- totals that keep the limits
abbrev pub kept_f : LimitsF → Option Scheduled → Option Scheduled
kept_f limits totals = totals >>= λ s. given (allow_f limits.max_distance limits.max_duration s.distance s.duration) s

-- those of a run
unfoldable pub allowed_f : Tables → LimitsF → List ℕ → Option Scheduled
allowed_f t limits calls = kept_f limits (totals_f t limits.rest calls)

-- the break at call number k, from 0
unfoldable pub break_start_at_f : Tables → BreakOf Float → ℕ → List ℕ → Option Float
break_start_at_f t b k calls =
    way_f t start_way (take k calls)
    >>= λ d. leg_f t d.prev (get_or calls k 0)
    >>= λ g. Some (break_start_f b (Ieee.add binary64 d.label.time g.time))

-- the break of a place, from 1; 0 is none
unfoldable pub start_f : Tables → Option (BreakOf Float) → ℕ → List ℕ → Option Float
start_f t None place calls = None
start_f t (Some b) zero calls = None
start_f t (Some b) (suc k) calls = break_start_at_f t b k calls

-- the break of a run, by its totals: the place by the clock, and the start
abbrev pub taken_f : Tables → Option (BreakOf Float) → List ℕ → Option Scheduled → TakenF
taken_f t rest calls None = record { place = 0; start = None }
taken_f t rest calls (Some h) = record { place = h.place; start = start_f t rest h.place calls }

unfoldable pub break_f : Tables → Option (BreakOf Float) → List ℕ → TakenF
break_f t rest calls = taken_f t rest calls (totals_f t rest calls)

-- ---- the evaluations

unfoldable pub feasible_f : Tables → LimitsF → List ℕ → Bool
feasible_f t limits calls = present (allowed_f t limits calls)

-- the distance and the lateness cost; infinity where there is none
abbrev pub priced_f : Option Scheduled → Float
priced_f None = inf false
priced_f (Some s) = Ieee.add binary64 s.distance s.cost

unfoldable pub cost_f : Tables → LimitsF → List ℕ → Float
cost_f t limits calls = priced_f (allowed_f t limits calls)

unfoldable pub eval_f : Tables → LimitsF → List ℕ → Option EvaluationF
eval_f t limits calls = allowed_f t limits calls >>= λ s. Some (record { totals = s; start = start_f t limits.rest s.place calls })
