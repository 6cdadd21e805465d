-- The answer of `build_route` on floats. Definitions only.
use Rattle.std.specs.Prelude.{ℕ, ◌≡◌, List, [], ◌∷◌, length, take, Float, Option, None, Some}
use Rattle.std.specs.Float.Ieee as Ieee
use Rattle.std.specs.Float.{binary64}
use Rattle.definitions.specs.Load.{Load, no_load}
use Rattle.whole.specs.Whole.{fl}
use Rattle.models.specs.Load.{load_of}
use Rattle.clock.specs.declared.schedule.Scheduled.{Scheduled}
use Rattle.evaluation.specs.Records.{Tables, LimitsF}
use Rattle.evaluation.specs.Tables.{leg_f}
use Rattle.evaluation.specs.Way.{closed_f}
use Rattle.visits.specs.declared.visit.Visit.{Visit}
use Rattle.visits.specs.declared.visit.ViolationType.TheVariants.{ClosedLeg}
use Rattle.visits.specs.declared.visit.Violation.{Violation}
use Rattle.visits.specs.declared.evaluator.Built.{Built}
use Rattle.visits.specs.Visiting.{RestF, rest_at_f, TripF, start_trip, open_f, visits_f, windows_f, trip_f}
use Rattle.visits.specs.Violations.{checked_f}

-- the visits, the totals with the break's place, the load, the break's start, and the violations
pub record RouteF : Type 0 where
  pub visits : List Visit
  pub totals : Scheduled
  pub load : Load
  pub start : Option Float
  pub violations : List Violation

-- home from the end of the trip, with the break at this place
abbrev pub home_f : Tables → ℕ → TripF → Scheduled
home_f t place x =
    record {
      distance = Ieee.add binary64 x.distance (open_f t x.prev 0).distance;
      duration = Ieee.add binary64 x.label.time (open_f t x.prev 0).time;
      lateness = x.label.lateness;
      cost = x.label.cost;
      place = place;
    }

-- with the break placed so
abbrev pub built_f : Tables → Load → LimitsF → List ℕ → RestF → RouteF
built_f t capacity limits calls r =
    let x = trip_f t r 1 start_trip calls in
    let totals = home_f t r.place x in
    record {
      visits = visits_f t r 1 start_trip calls;
      totals = totals;
      load = x.load;
      start = r.start;
      violations =
          checked_f (windows_f t r 1 start_trip calls) r.missing x.load capacity limits totals.distance totals.duration;
    }

-- of a run without a closed leg
unfoldable pub open_route_f : Tables → Load → LimitsF → List ℕ → RouteF
open_route_f t capacity limits calls = built_f t capacity limits calls (rest_at_f t limits.rest calls)

-- of a run with one: its first is the only thing reported, and nothing is visited
abbrev pub closed_route_f : ℕ → RouteF
closed_route_f leg =
    record {
      visits = [];
      totals = record { distance = fl 0; duration = fl 0; lateness = fl 0; cost = fl 0; place = 0 };
      load = no_load;
      start = None;
      violations = record { kind = ClosedLeg leg } ∷ [];
    }

-- by the first closed leg
abbrev pub route_f : Tables → Load → LimitsF → List ℕ → Option ℕ → RouteF
route_f t capacity limits calls (Some leg) = closed_route_f leg
route_f t capacity limits calls None = open_route_f t capacity limits calls

unfoldable pub build_route_f : Tables → Load → LimitsF → List ℕ → RouteF
build_route_f t capacity limits calls = route_f t capacity limits calls (closed_f (leg_f t) 1 0 calls)

-- ---- what the code has of it

abbrev pub built_of : Built → RouteF
built_of b =
    record {
      visits = take b.count b.visits;
      totals =
          record {
            distance = b.distance;
            duration = b.duration;
            lateness = b.lateness;
            cost = b.lateness_cost;
            place = b.place;
          };
      load = load_of b.load;
      start = b.start;
      violations = take b.found b.violations;
    }

pub record Builds (t : Tables) (capacity : Load) (limits : LimitsF) (calls : List ℕ) (b : Built) : Type 0 where
  pub built-is : built_of b ≡ build_route_f t capacity limits calls
  pub count-is : b.count ≡ length (build_route_f t capacity limits calls).visits
  pub found-is : b.found ≡ length (build_route_f t capacity limits calls).violations
