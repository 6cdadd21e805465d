-- A route of whole numbers, each figure held in a float. Definitions only.
use Rattle.std.specs.Prelude.{map, option_map}
use Rattle.definitions.specs.Visits as Whole
use Rattle.definitions.specs.Visits.{Route, window_shut, break_not_placeable, over_capacity, over_distance, over_duration, over_wheelchairs, closed_leg}
use Rattle.whole.specs.Whole.{fl}
use Rattle.clock.specs.Image.{fl_totals}
use Rattle.visits.specs.declared.visit.Visit.{Visit}
use Rattle.visits.specs.declared.visit.ViolationType.{ViolationType}
use Rattle.visits.specs.declared.visit.ViolationType.TheVariants.{TimeWindowViolated, BreakNotPlaceable, CapacityExceeded, MaxDistanceExceeded, MaxDurationExceeded, WheelchairsExceeded, ClosedLeg}
use Rattle.visits.specs.declared.visit.Violation.{Violation}
use Rattle.visits.specs.Visiting.{load_in}
use Rattle.visits.specs.Building.{RouteF}

abbrev pub fl_visit : Whole.Visit → Visit
fl_visit v =
    record {
      customer_id = v.customer;
      arrival_time = fl v.arrival;
      departure_time = fl v.departure;
      load_after = load_in v.load;
    }

abbrev pub fl_kind : Whole.Violation → ViolationType
fl_kind (window_shut customer readiness due) = TimeWindowViolated customer (fl readiness) (fl due)
fl_kind break_not_placeable = BreakNotPlaceable
fl_kind (over_capacity load capacity) = CapacityExceeded load capacity
fl_kind (over_distance distance limit) = MaxDistanceExceeded (fl distance) (fl limit)
fl_kind (over_duration duration limit) = MaxDurationExceeded (fl duration) (fl limit)
fl_kind (over_wheelchairs load capacity) = WheelchairsExceeded load capacity
fl_kind (closed_leg leg) = ClosedLeg leg

abbrev pub fl_violation : Whole.Violation → Violation
fl_violation v = record { kind = fl_kind v }

abbrev pub fl_route : Route → RouteF
fl_route r =
    record {
      visits = map fl_visit r.visits;
      totals = fl_totals r.totals;
      load = r.load;
      start = option_map fl r.start;
      violations = map fl_violation r.violations;
    }
