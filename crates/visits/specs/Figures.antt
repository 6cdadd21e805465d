-- A violation of the code by its number and values. Definitions only.
use Rattle.std.specs.Prelude.{ℕ, List, [], ◌∷◌, Float}
use Rattle.whole.specs.Whole.{fl}
use Rattle.visits.specs.declared.visit.ViolationType.{ViolationType}
use Rattle.visits.specs.declared.visit.ViolationType.TheVariants.{TimeWindowViolated, BreakNotPlaceable, CapacityExceeded, MaxDistanceExceeded, MaxDurationExceeded, WheelchairsExceeded, ClosedLeg}

abbrev pub number_in : ViolationType → ℕ
number_in (TimeWindowViolated customer arrival due) = 1
number_in BreakNotPlaceable = 2
number_in (CapacityExceeded load capacity) = 3
number_in (MaxDistanceExceeded distance max) = 4
number_in (MaxDurationExceeded duration max) = 5
number_in (WheelchairsExceeded load capacity) = 6
number_in (ClosedLeg leg) = 7

abbrev pub values_in : ViolationType → List Float
values_in (TimeWindowViolated customer arrival due) = fl customer ∷ arrival ∷ due ∷ []
values_in BreakNotPlaceable = []
values_in (CapacityExceeded load capacity) = fl load ∷ fl capacity ∷ []
values_in (MaxDistanceExceeded distance max) = distance ∷ max ∷ []
values_in (MaxDurationExceeded duration max) = duration ∷ max ∷ []
values_in (WheelchairsExceeded load capacity) = fl load ∷ fl capacity ∷ []
values_in (ClosedLeg leg) = fl leg ∷ []
