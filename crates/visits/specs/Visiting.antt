-- Visiting the calls of a run on floats, step by step as the code has it. Definitions only.
use Rattle.std.specs.Prelude.{ℕ, suc, ◌≤◌, ◌≡◌, Bool, true, cond, not, ◌&&◌, List, [], ◌∷◌, eqb, length, take, Float, Option, None, Some}
use Rattle.std.specs.Float.Ieee as Ieee
use Rattle.std.specs.Float.{binary64}
use Rattle.basics.specs.Options.{◌>>=◌, present, value_or}
use Rattle.definitions.specs.Domain.{most_calls}
use Rattle.definitions.specs.Lent.{violation_room}
use Rattle.definitions.specs.Load.{Load, no_load, plus}
use Rattle.definitions.specs.Sheet.{WindowOf, BreakOf, CustomerOf}
use Rattle.whole.specs.Whole.{fl}
use Rattle.distance.specs.declared.leg.Leg.{Leg}
use Rattle.models.specs.declared.load.Load as Code
use Rattle.models.specs.Load.{load_of}
use Rattle.models.specs.Window.{waiting_f, due_f}
use Rattle.clock.specs.declared.schedule.Label.{Label}
use Rattle.clock.specs.declared.schedule.Scheduled.{Scheduled}
use Rattle.clock.specs.Serving.{start_label, at_time, enter_f, leave_f}
use Rattle.evaluation.specs.Records.{Tables}
use Rattle.evaluation.specs.Tables.{record_f, leg_f}
use Rattle.evaluation.specs.Schedule.{schedule_f}
use Rattle.evaluation.specs.Route.{start_f}
use Rattle.visits.specs.declared.visit.Visit.{Visit}
use Rattle.visits.specs.declared.visit.ViolationType.TheVariants.{TimeWindowViolated, BreakNotPlaceable}
use Rattle.visits.specs.declared.visit.Violation.{Violation}
use Rattle.visits.specs.declared.violation.Violations.{Violations}
use Rattle.visits.specs.declared.rest.RestAt.{RestAt}
use Rattle.visits.specs.declared.trip.Served.{Served}
use Rattle.visits.specs.declared.trip.Trip.{Trip}
use Rattle.visits.specs.declared.trip.VisitedCall.{VisitedCall}
use Rattle.visits.specs.declared.evaluator.VisitedRun.{VisitedRun}

-- ---- the break

-- the call that it comes before, from 1, or 0; its start and its length; and whether it has no place though there is one
pub record RestF : Type 0 where
  pub place : ℕ
  pub start : Option Float
  pub duration : Float
  pub missing : Bool

abbrev pub rest_at_of : RestAt → RestF
rest_at_of r = record { place = r.place; start = r.start; duration = r.duration; missing = r.missing }

-- placed where the run finishes earliest
unfoldable pub placed_f : Tables → Option (BreakOf Float) → List ℕ → Option Scheduled
placed_f t rest calls = rest >>= λ b. schedule_f t b calls

abbrev pub place_of : Option Scheduled → ℕ
place_of None = 0
place_of (Some s) = s.place

abbrev pub duration_f : Option (BreakOf Float) → Float
duration_f None = fl 0
duration_f (Some b) = b.duration

abbrev pub missing_f : Option (BreakOf Float) → Option Scheduled → Bool
missing_f rest placed = present rest && not (present placed)

-- with a placing, and with the best one
abbrev pub rest_by_f : Tables → Option (BreakOf Float) → List ℕ → Option Scheduled → RestF
rest_by_f t rest calls placed =
    record {
      place = place_of placed;
      start = start_f t rest (place_of placed) calls;
      duration = duration_f rest;
      missing = missing_f rest placed;
    }

unfoldable pub rest_at_f : Tables → Option (BreakOf Float) → List ℕ → RestF
rest_at_f t rest calls = rest_by_f t rest calls (placed_f t rest calls)

-- at the call that the break comes before, the service can start only after it
unfoldable pub ready_at_f : RestF → ℕ → Float → Float
ready_at_f r k arrival =
    value_or arrival (r.start >>= λ from. cond (eqb r.place k) (Some (Ieee.add binary64 from r.duration)) None)

-- ---- a call

-- when service starts, from readiness on
unfoldable pub begin_f : Option (WindowOf Float) → Float → Float
begin_f None readiness = readiness
begin_f (Some w) readiness = Ieee.add binary64 readiness (waiting_f w readiness)

-- the label as service starts: where the window is shut nothing is charged
abbrev pub stay_f : CustomerOf Float → Float → Label → Option Label → Label
stay_f c readiness l o = value_or (at_time (begin_f c.window readiness) l) o

-- by the label that the window gives, if it does
abbrev pub served_by : CustomerOf Float → Float → Label → Option Label → Served
served_by c readiness l o =
    let m = stay_f c readiness l o in
    record { label = leave_f c.service m.place m; shut = not (present o) }

unfoldable pub served_f : CustomerOf Float → Float → Label → Served
served_f c readiness l = served_by c readiness l (enter_f c.window c.penalty readiness l)

-- some way through the calls: the label, the distance travelled, the load, and the last place
pub record TripF : Type 0 where
  pub label : Label
  pub distance : Float
  pub load : Load
  pub prev : ℕ

abbrev pub trip_of : Trip → TripF
trip_of x = record { label = x.label; distance = x.distance; load = load_of x.load; prev = x.prev }

abbrev pub start_trip : TripF
start_trip = record { label = start_label; distance = fl 0; load = no_load; prev = 0 }

-- a call visited: the trip with it, the visit, and the violation of its window, which counts where that is shut
pub record VisitedF : Type 0 where
  pub trip : TripF
  pub visit : Visit
  pub violation : Violation
  pub shut : Bool

abbrev pub visited_of : VisitedCall → VisitedF
visited_of v = record { trip = trip_of v.trip; visit = v.visit; violation = v.violation; shut = v.shut }

-- the load as a visit has it
abbrev pub load_in : Load → Code.Load
load_in load = record { seats = load.seats; wheelchairs = load.wheelchairs }

-- customer cid, reached at `arrival`, ready from `readiness` on and left as served, with this load
abbrev pub visit_by : TripF → ℕ → CustomerOf Float → Float → Float → Float → Served → Load → VisitedF
visit_by x cid c distance arrival readiness m load =
    record {
      trip = record { label = m.label; distance = Ieee.add binary64 x.distance distance; load = load; prev = cid };
      visit = record { customer_id = cid; arrival_time = arrival; departure_time = m.label.time; load_after = load_in load };
      violation = record { kind = TimeWindowViolated cid readiness (due_f c.window) };
      shut = m.shut;
    }

-- call number k, customer cid, a distance and a travel time away
unfoldable pub visit_f : TripF → RestF → ℕ → ℕ → CustomerOf Float → Float → Float → VisitedF
visit_f x r k cid c distance travel =
    let arrival = Ieee.add binary64 x.label.time travel in
    let readiness = ready_at_f r k arrival in
    visit_by x cid c distance arrival readiness (served_f c readiness x.label) (plus x.load c.demand)

-- ---- the walk, along a run without a closed leg

-- the leg from a to b; on such a run there is one, so the zeros are never read
abbrev pub open_f : Tables → ℕ → ℕ → Leg
open_f t a b = value_or (record { distance = fl 0; time = fl 0 }) (leg_f t a b)

-- call number k, looked up in the tables
abbrev pub visit_at_f : Tables → RestF → ℕ → TripF → ℕ → VisitedF
visit_at_f t r k x c = visit_f x r k c (record_f t c) (open_f t x.prev c).distance (open_f t x.prev c).time

-- the calls from number k on
module _ (t : Tables) (r : RestF) where
  unfoldable pub visits_f : ℕ → TripF → List ℕ → List Visit
  visits_f k x [] = []
  visits_f k x (c ∷ cs) = (visit_at_f t r k x c).visit ∷ visits_f (suc k) (visit_at_f t r k x c).trip cs

  unfoldable pub windows_f : ℕ → TripF → List ℕ → List Violation
  windows_f k x [] = []
  windows_f k x (c ∷ cs) =
      let rest = windows_f (suc k) (visit_at_f t r k x c).trip cs in
      cond (visit_at_f t r k x c).shut ((visit_at_f t r k x c).violation ∷ rest) rest

  unfoldable pub trip_f : ℕ → TripF → List ℕ → TripF
  trip_f k x [] = x
  trip_f k x (c ∷ cs) = trip_f (suc k) (visit_at_f t r k x c).trip cs

-- the first ones, so many as are counted
abbrev pub listed : Violations → List Violation
listed f = take f.count f.list

-- what the list has room for
abbrev pub most_violations : ℕ
most_violations = violation_room most_calls

-- what the code has of the walk
pub record Walks (t : Tables) (r : RestF) (calls : List ℕ) (w : VisitedRun) : Type 0 where
  pub visits-are : take (length calls) w.visits ≡ visits_f t r 1 start_trip calls
  pub windows-are : listed w.windows ≡ windows_f t r 1 start_trip calls
  pub trip-is : trip_of w.trip ≡ trip_f t r 1 start_trip calls
  pub home-open : present (leg_f t w.trip.prev 0) ≡ true
  pub few : w.windows.count ≤ length calls
  pub long : length w.windows.list ≡ most_violations

-- ---- what stands in the arrays where nothing is written

abbrev pub blank_visit : Visit
blank_visit = record { customer_id = 0; arrival_time = fl 0; departure_time = fl 0; load_after = load_in no_load }

abbrev pub blank_violation : Violation
blank_violation = record { kind = BreakNotPlaceable }
