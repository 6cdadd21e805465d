-- A verdict held in floats has the number and the values of the one that it holds. Assumes nothing.
use mathlib.Core.Path.{◌≡◌, refl}
use mathlib.Core.List.{map}
use Rattle.whole.specs.Whole.{fl}
use Rattle.definitions.specs.Marker.{Verdict, other_calls, overload, break_too_late, window_missed, break_missing, too_far, too_long, best, dearer, cheaper, wheelchair_overload, road_closed, verdict_number, verdict_values}
use Rattle.marker.specs.Image.{fl_verdict}
use Rattle.marker.specs.Figures.{number_in, values_in}

pub same_number : (v : Verdict) → number_in (fl_verdict v) ≡ verdict_number v
same_number (other_calls position) = refl
same_number (overload run load capacity) = refl
same_number (break_too_late run place customer start latest) = refl
same_number (window_missed run place customer readiness due) = refl
same_number (break_missing run duration earliest) = refl
same_number (too_far run distance max) = refl
same_number (too_long run duration max) = refl
same_number best = refl
same_number (dearer by) = refl
same_number (cheaper by) = refl
same_number (wheelchair_overload run load capacity) = refl
same_number (road_closed run leg) = refl

pub same-values : (v : Verdict) → values_in (fl_verdict v) ≡ map fl (verdict_values v)
same-values (other_calls position) = refl
same-values (overload run load capacity) = refl
same-values (break_too_late run place customer start latest) = refl
same-values (window_missed run place customer readiness due) = refl
same-values (break_missing run duration earliest) = refl
same-values (too_far run distance max) = refl
same-values (too_long run duration max) = refl
same-values best = refl
same-values (dearer by) = refl
same-values (cheaper by) = refl
same-values (wheelchair_overload run load capacity) = refl
same-values (road_closed run leg) = refl
