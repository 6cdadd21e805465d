-- What a run violates besides its windows, on floats, in the order of the code. Definitions only.
use Rattle.std.specs.Prelude.{◌+◌, ◌≤◌, ◌≡◌, Bool, false, cond, not, ◌&&◌, List, [], ◌∷◌, ◌++◌, length, Float, Option, None, Some}
use Rattle.std.specs.Float.Ieee as Ieee
use Rattle.basics.specs.Lists.{is_empty}
use Rattle.definitions.specs.Load.{Load, seated, wheeled}
use Rattle.models.specs.Limits.{limit_f}
use Rattle.evaluation.specs.Records.{LimitsF}
use Rattle.visits.specs.declared.visit.ViolationType.TheVariants.{BreakNotPlaceable, CapacityExceeded, MaxDistanceExceeded, MaxDurationExceeded, WheelchairsExceeded}
use Rattle.visits.specs.declared.visit.Violation.{Violation}
use Rattle.visits.specs.declared.violation.Violations.{Violations}
use Rattle.visits.specs.Visiting.{listed, most_violations}

-- above the limit, if there is one
abbrev pub over_f : Option Float → Float → Bool
over_f None x = false
over_f (Some max) x = Ieee.lt max x

-- the violation, where the test holds
unfoldable pub when : Bool → Violation → List Violation
when b v = cond b (v ∷ []) []

-- a load over what a vehicle holds, in each measure
abbrev pub over_capacity_f : Load → Load → Violation
over_capacity_f load capacity = record { kind = CapacityExceeded load.seats capacity.seats }

abbrev pub over_wheelchairs_f : Load → Load → Violation
over_wheelchairs_f load capacity = record { kind = WheelchairsExceeded load.wheelchairs capacity.wheelchairs }

-- those in which it is over: seats, then wheelchair places
unfoldable pub overloads_f : Load → Load → List Violation
overloads_f load capacity =
    when (not (seated load capacity)) (over_capacity_f load capacity)
    ++ when (not (wheeled load capacity)) (over_wheelchairs_f load capacity)

-- the windows violated, and after them the break, capacity, distance and duration
unfoldable pub checked_f : List Violation → Bool → Load → Load → LimitsF → Float → Float → List Violation
checked_f windows missing load capacity limits distance duration =
    windows
    ++ when (missing && is_empty windows) (record { kind = BreakNotPlaceable })
    ++ overloads_f load capacity
    ++ when (over_f limits.max_distance distance) (record { kind = MaxDistanceExceeded distance (limit_f limits.max_distance) })
    ++ when (over_f limits.max_duration duration) (record { kind = MaxDurationExceeded duration (limit_f limits.max_duration) })

-- ---- what the code has of them

-- these besides, behind those that are listed
pub record Added (f : Violations) (vs : List Violation) (r : Violations) : Type 0 where
  pub list-is : listed r ≡ listed f ++ vs
  pub count-is : r.count ≡ f.count + length vs
  pub long : length r.list ≡ most_violations

pub record Checked (f : Violations) (missing : Bool) (load capacity : Load) (limits : LimitsF) (distance duration : Float) (r : Violations)
    : Type 0 where
  pub list-is : listed r ≡ checked_f (listed f) missing load capacity limits distance duration
  pub room : r.count ≤ most_violations
  pub long : length r.list ≡ most_violations
