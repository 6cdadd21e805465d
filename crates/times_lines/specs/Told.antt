-- What the lines of a timeline tell, by the code's floats: each as the whole number that a line shows. Definitions only.
use Rattle.std.specs.Prelude.{ℕ, suc, cond, List, [], ◌∷◌, map, eqb, Float, get_or, Option, None, Some}
use Rattle.std.specs.Float.Ieee as Ieee
use Rattle.std.specs.Float.{binary64}
use Rattle.definitions.specs.Sheet.{WindowOf, BreakOf, CustomerOf, Window}
use Rattle.definitions.specs.Run.{Totals}
use Rattle.definitions.specs.Visits as Whole
use Rattle.definitions.specs.Visits.{window_shut, break_not_placeable, over_capacity, over_distance, over_duration, over_wheelchairs, closed_leg}
use Rattle.texts.specs.TimesText.{Pause, Told, run_lines}
use Rattle.listing_lines.specs.Number.{whole_part}
use Rattle.models.specs.Load.{load_of}
use Rattle.clock.specs.declared.schedule.Scheduled.{Scheduled}
use Rattle.evaluation.specs.Tables.{record_index, blank}
use Rattle.visits.specs.declared.visit.Visit.{Visit}
use Rattle.visits.specs.declared.visit.ViolationType.{ViolationType}
use Rattle.visits.specs.declared.visit.ViolationType.TheVariants.{TimeWindowViolated, BreakNotPlaceable, CapacityExceeded, MaxDistanceExceeded, MaxDurationExceeded, WheelchairsExceeded, ClosedLeg}
use Rattle.visits.specs.declared.visit.Violation.{Violation}
use Rattle.visits.specs.Visiting.{duration_f}
use Rattle.visits.specs.Building.{RouteF}

-- ---- a call

-- the start of a break at this place, at call number k
unfoldable pub start_at : ℕ → Option Float → ℕ → Option Float
start_at place start k = cond (eqb place k) start None

-- a break of this duration, by its start
abbrev pub pause_in : Float → Option Float → Option Pause
pause_in duration None = None
pause_in duration (Some from) = Some (record { from = whole_part from; until = whole_part (Ieee.add binary64 from duration) })

abbrev pub window_in : Option (WindowOf Float) → Option Window
window_in None = None
window_in (Some w) = Some (record { ready = whole_part w.ready; due = whole_part w.due })

-- a visit whose service starts at `begin`
abbrev pub stop_in : Option Pause → Option (WindowOf Float) → Visit → Float → Told
stop_in rest window v begin =
    record {
      customer = v.customer_id;
      arrival = whole_part v.arrival_time;
      rest = rest;
      begin = whole_part begin;
      departure = whole_part v.departure_time;
      load = load_of v.load_after;
      window = window_in window;
    }

-- ---- a violation

abbrev pub kind_in : ViolationType → Whole.Violation
kind_in (TimeWindowViolated customer arrival due) = window_shut customer (whole_part arrival) (whole_part due)
kind_in BreakNotPlaceable = break_not_placeable
kind_in (CapacityExceeded load capacity) = over_capacity load capacity
kind_in (MaxDistanceExceeded distance max) = over_distance (whole_part distance) (whole_part max)
kind_in (MaxDurationExceeded duration max) = over_duration (whole_part duration) (whole_part max)
kind_in (WheelchairsExceeded load capacity) = over_wheelchairs load capacity
kind_in (ClosedLeg leg) = closed_leg leg

abbrev pub violation_in : Violation → Whole.Violation
violation_in v = kind_in v.kind

-- ---- a run

-- totals of these figures
abbrev pub figures_in : (distance duration lateness pay : Float) → (place : ℕ) → Totals
figures_in distance duration lateness pay place =
    record {
      distance = whole_part distance;
      duration = whole_part duration;
      lateness = whole_part lateness;
      pay = whole_part pay;
      place = place;
    }

abbrev pub totals_in : Scheduled → Totals
totals_in t = figures_in t.distance t.duration t.lateness t.cost t.place

-- the visits from number k on, with when each service starts, and the break of this duration at `place`
module _ (customers : List (CustomerOf Float)) (duration : Float) (place : ℕ) (start : Option Float) where
  abbrev pub told_at : ℕ → Visit → Float → Told
  told_at k v begin =
      stop_in (pause_in duration (start_at place start k)) (get_or customers (record_index v.customer_id) blank).window v begin

  unfoldable pub stops_in : ℕ → List Visit → List Float → List Told
  stops_in k [] bs = []
  stops_in k (v ∷ vs) [] = []
  stops_in k (v ∷ vs) (b ∷ bs) = told_at k v b ∷ stops_in (suc k) vs bs

-- the lines of a run whose break is at this place, with the sheet's customers and break
unfoldable pub run_text_f : List (CustomerOf Float) → Option (BreakOf Float) → (place n : ℕ) → RouteF → List Float → List ℕ
run_text_f customers rest place n r begins =
    let stops = stops_in customers (duration_f rest) place r.start 1 r.visits begins in
    run_lines n stops (totals_in r.totals) (map violation_in r.violations)
