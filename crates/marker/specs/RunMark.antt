-- The mark of one run on floats, step by step as the code has it. Definitions only.
use Rattle.std.specs.Prelude.{ℕ, zero, suc, Bool, cond, List, leb, eqb, length, Float, Option, None, Some, Result, Ok, Err}
use Rattle.std.specs.Float.Ieee as Ieee
use Rattle.std.specs.Float.{binary64}
use Rattle.definitions.specs.Load.{Load, seated, carried, load_by}
use Rattle.definitions.specs.Sheet.{BreakOf}
use Rattle.whole.specs.Whole.{fl}
use Rattle.models.specs.declared.customer.Customer.{Customer}
use Rattle.models.specs.declared.head.Head.{Head}
use Rattle.models.specs.Limits.{limit_f, within_f}
use Rattle.models.specs.Load.{space_of}
use Rattle.clock.specs.declared.schedule.Scheduled.{Scheduled}
use Rattle.clock.specs.Serving.{start_label}
use Rattle.clock.specs.Clock.{excused_f}
use Rattle.evaluation.specs.Records.{Tables, LimitsF, lent, limits_of}
use Rattle.evaluation.specs.Tables.{demand_f, leg_f}
use Rattle.evaluation.specs.Way.{closed_f}
use Rattle.marker.specs.declared.verdict.Verdict.{Verdict}
use Rattle.marker.specs.declared.verdict.Verdict.TheVariants.{Overload, BreakMissing, TooFar, TooLong, WheelchairOverload, RoadClosed}
use Rattle.marker.specs.Walking.{break_or_f, walk_f}

-- what runs are marked on
pub record Ground : Type 0 where
  pub tables : Tables
  pub capacity : Load
  -- the cost added for every run
  pub fixed : Float
  pub limits : LimitsF

abbrev pub ground_of : List Customer → List Float → List Float → Head → Ground
ground_of customers distances times head =
    record {
      tables = lent customers distances times head.places;
      capacity = space_of head.capacity;
      fixed = head.fixed_cost;
      limits = limits_of head.limits;
    }

-- a place that the break may have in a run of n calls that is home at `duration`
unfoldable pub placed_f : Option (BreakOf Float) → ℕ → ℕ → Float → Bool
placed_f None place n duration = eqb place 0
placed_f (Some b) zero n duration = excused_f b duration
placed_f (Some b) (suc k) n duration = leb (suc k) n

-- run n of so many calls by its totals: a missing break where one is needed, distance, duration, and else its cost
unfoldable pub totals_mark_f : LimitsF → Float → (n place calls : ℕ) → Scheduled → Result Float Verdict
totals_mark_f limits fixed n place calls t =
    cond (placed_f limits.rest place calls t.duration)
    (cond (within_f limits.max_distance t.distance)
    (cond (within_f limits.max_duration t.duration)
    (Ok (Ieee.add binary64 (Ieee.add binary64 fixed t.distance) t.cost))
    (Err (TooLong n t.duration (limit_f limits.max_duration))))
    (Err (TooFar n t.distance (limit_f limits.max_distance))))
    (Err (BreakMissing n t.duration (break_or_f limits.rest).earliest))

-- the same after the walk
abbrev pub walk_mark_f : LimitsF → Float → (n place calls : ℕ) → Result Scheduled Verdict → Result Float Verdict
walk_mark_f limits fixed n place calls (Err v) = Err v
walk_mark_f limits fixed n place calls (Ok t) = totals_mark_f limits fixed n place calls t

-- the measure in which a load is over what the vehicle holds: seats, and where these are within it wheelchair places
abbrev pub overload_f : ℕ → Load → Load → Verdict
overload_f n load capacity =
    cond (seated load capacity)
    (WheelchairOverload n load.wheelchairs capacity.wheelchairs)
    (Overload n load.seats capacity.seats)

-- run n with this load: the load, the calls, the totals
abbrev pub load_mark_f : Ground → ℕ → List ℕ → ℕ → Load → Result Float Verdict
load_mark_f G n calls place load =
    cond (carried load G.capacity)
    (walk_mark_f G.limits G.fixed n place (length calls) (walk_f G.tables G.limits.rest n place 1 (fl 0) 0 start_label calls))
    (Err (overload_f n load G.capacity))

-- the same where the first closed leg of the run is given: it comes before all others
abbrev pub legs_mark_f : Ground → ℕ → List ℕ → ℕ → Option ℕ → Result Float Verdict
legs_mark_f G n calls place (Some leg) = Err (RoadClosed n leg)
legs_mark_f G n calls place None = load_mark_f G n calls place (load_by (demand_f G.tables.customers) calls)

unfoldable pub run_mark_f : Ground → ℕ → List ℕ → ℕ → Result Float Verdict
run_mark_f G n calls place = legs_mark_f G n calls place (closed_f (leg_f G.tables) 1 0 calls)
