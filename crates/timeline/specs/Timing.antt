-- The timeline of a run whose break is at a given place, on floats, step by step as the code has it. Definitions only.
use Rattle.std.specs.Prelude.{ℕ, zero, suc, ◌≤◌, ◌≡◌, Bool, false, not, ◌&&◌, ◌||◌, List, [], ◌∷◌, eqb, length, get_or, take, Float, Option, None, Some}
use Rattle.std.specs.Float.Ieee as Ieee
use Rattle.basics.specs.Options.{◌>>=◌, present, given}
use Rattle.definitions.specs.Domain.{most_calls}
use Rattle.definitions.specs.Load.{Load}
use Rattle.definitions.specs.Sheet.{WindowOf, BreakOf, CustomerOf}
use Rattle.clock.specs.Serving.{break_start_f}
use Rattle.clock.specs.Clock.{excused_f}
use Rattle.evaluation.specs.Records.{Tables, LimitsF}
use Rattle.evaluation.specs.Tables.{record_index, blank, leg_f}
use Rattle.evaluation.specs.Way.{closed_f}
use Rattle.visits.specs.declared.visit.Visit.{Visit}
use Rattle.visits.specs.Visiting.{RestF, duration_f, ready_at_f, begin_f, start_trip, visits_f, windows_f, trip_f, most_violations, blank_visit}
use Rattle.visits.specs.Violations.{checked_f}
use Rattle.visits.specs.Building.{RouteF, home_f, closed_route_f, built_of}
use Rattle.timeline.specs.declared.timeline.Timeline.{Timeline}

-- ---- the break at a given place

-- at a call that is reached at `arrival`: past latest it is not taken
abbrev pub started_f : BreakOf Float → Float → Option Float
started_f b arrival = given (not (Ieee.lt b.latest (break_start_f b arrival))) (break_start_f b arrival)

-- at call number `place`, from 1, by the visits of the run without it; 0 is none
unfoldable pub given_start_f : Option (BreakOf Float) → ℕ → List Visit → Option Float
given_start_f None place visits = None
given_start_f (Some b) zero visits = None
given_start_f (Some b) (suc k) visits = started_f b (get_or visits k blank_visit).arrival_time

-- as the visits have it, by its place and start
abbrev pub rest_with_f : Option (BreakOf Float) → ℕ → Option Float → RestF
rest_with_f rest place start = record { place = place; start = start; duration = duration_f rest; missing = false }

-- of a run without a closed leg
unfoldable pub given_rest_f : Tables → Option (BreakOf Float) → ℕ → List ℕ → RestF
given_rest_f t rest place calls = rest_with_f rest place (given_start_f rest place (visits_f t (rest_with_f rest 0 None) 1 start_trip calls))

-- needed and not taken: it would start past latest, or no place is given and the run is home too late to be excused
abbrev pub untaken_f : Option (BreakOf Float) → ℕ → Option Float → Float → Bool
untaken_f None place start duration = false
untaken_f (Some b) place start duration = not (present start || (eqb place 0 && excused_f b duration))

-- ---- the service starts

-- the window of a call, by the customers' records
abbrev pub window_f : List (CustomerOf Float) → ℕ → Option (WindowOf Float)
window_f customers c = (get_or customers (record_index c) blank).window

-- of the visits from number k on
unfoldable pub begins_f : List (CustomerOf Float) → RestF → ℕ → List Visit → List Float
begins_f customers r k [] = []
begins_f customers r k (v ∷ vs) =
    begin_f (window_f customers v.customer_id) (ready_at_f r k v.arrival_time) ∷ begins_f customers r (suc k) vs

-- ---- the timeline

-- the run with its visits, and for each when its service starts
pub record TimelineF : Type 0 where
  pub route : RouteF
  pub begins : List Float

-- with the break at this place, as r has it
abbrev pub timed_f : Tables → Load → LimitsF → ℕ → List ℕ → RestF → TimelineF
timed_f t capacity limits place calls r =
    let visits = visits_f t r 1 start_trip calls in
    let x = trip_f t r 1 start_trip calls in
    let totals = home_f t place x in
    record {
      route =
          record {
            visits = visits;
            totals = totals;
            load = x.load;
            start = r.start;
            violations =
                checked_f (windows_f t r 1 start_trip calls) (untaken_f limits.rest place r.start totals.duration)
                x.load capacity limits totals.distance totals.duration;
          };
      begins = begins_f t.customers r 1 visits;
    }

-- of a run without a closed leg
unfoldable pub open_timeline_f : Tables → Load → LimitsF → ℕ → List ℕ → TimelineF
open_timeline_f t capacity limits place calls = timed_f t capacity limits place calls (given_rest_f t limits.rest place calls)

-- by the first closed leg: of a run with one nothing but that is told
abbrev pub timeline_by_f : Tables → Load → LimitsF → ℕ → List ℕ → Option ℕ → TimelineF
timeline_by_f t capacity limits place calls (Some leg) = record { route = closed_route_f leg; begins = [] }
timeline_by_f t capacity limits place calls None = open_timeline_f t capacity limits place calls

unfoldable pub timeline_f : Tables → Load → LimitsF → ℕ → List ℕ → TimelineF
timeline_f t capacity limits place calls = timeline_by_f t capacity limits place calls (closed_f (leg_f t) 1 0 calls)

-- ---- what the code has of it

abbrev pub timeline_in : Timeline → TimelineF
timeline_in x = record { route = built_of x.run; begins = take x.run.count x.begins }

pub record Times (t : Tables) (capacity : Load) (limits : LimitsF) (place : ℕ) (calls : List ℕ) (x : Timeline) : Type 0 where
  pub timeline-is : timeline_in x ≡ timeline_f t capacity limits place calls
  pub count-is : x.run.count ≡ length (timeline_f t capacity limits place calls).route.visits
  pub found-is : x.run.found ≡ length (timeline_f t capacity limits place calls).route.violations
  pub count_most : x.run.count ≤ most_calls
  pub found-most : x.run.found ≤ most_violations
