-- A violation held in floats has the number and the values of the one that it holds. Assumes nothing.
use mathlib.Core.Path.{◌≡◌, refl}
use mathlib.Core.List.{map}
use Rattle.whole.specs.Whole.{fl}
use Rattle.definitions.specs.Visits.{Violation, window_shut, break_not_placeable, over_capacity, over_distance, over_duration, over_wheelchairs, closed_leg, violation_number, violation_values}
use Rattle.visits.specs.Image.{fl_violation}
use Rattle.visits.specs.Figures.{number_in, values_in}

pub same_number : (v : Violation) → number_in (fl_violation v).kind ≡ violation_number v
same_number (window_shut customer readiness due) = refl
same_number break_not_placeable = refl
same_number (over_capacity load capacity) = refl
same_number (over_distance distance max) = refl
same_number (over_duration duration max) = refl
same_number (over_wheelchairs load capacity) = refl
same_number (closed_leg leg) = refl

pub same-values : (v : Violation) → values_in (fl_violation v).kind ≡ map fl (violation_values v)
same-values (window_shut customer readiness due) = refl
same-values break_not_placeable = refl
same-values (over_capacity load capacity) = refl
same-values (over_distance distance max) = refl
same-values (over_duration duration max) = refl
same-values (over_wheelchairs load capacity) = refl
same-values (closed_leg leg) = refl
