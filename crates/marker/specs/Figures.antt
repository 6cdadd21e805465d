-- A verdict of the code by its number and values. Definitions only.
use Rattle.std.specs.Prelude.{ℕ, List, [], ◌∷◌, Float}
use Rattle.whole.specs.Whole.{fl}
use Rattle.marker.specs.declared.verdict.Verdict.{Verdict}
use Rattle.marker.specs.declared.verdict.Verdict.TheVariants.{OtherCalls, Overload, BreakTooLate, WindowMissed, BreakMissing, TooFar, TooLong, Best, Dearer, Cheaper, WheelchairOverload, RoadClosed}

abbrev pub number_in : Verdict → ℕ
number_in (OtherCalls position) = 1
number_in (Overload run load capacity) = 2
number_in (BreakTooLate run place customer start latest) = 3
number_in (WindowMissed run place customer readiness due) = 4
number_in (BreakMissing run duration earliest) = 5
number_in (TooFar run distance max) = 6
number_in (TooLong run duration max) = 7
number_in Best = 8
number_in (Dearer by) = 9
number_in (Cheaper by) = 10
number_in (WheelchairOverload run load capacity) = 11
number_in (RoadClosed run leg) = 12

abbrev pub values_in : Verdict → List Float
values_in (OtherCalls position) = fl position ∷ []
values_in (Overload run load capacity) = fl run ∷ fl load ∷ fl capacity ∷ []
values_in (BreakTooLate run place customer start latest) = fl run ∷ fl place ∷ fl customer ∷ start ∷ latest ∷ []
values_in (WindowMissed run place customer readiness due) = fl run ∷ fl place ∷ fl customer ∷ readiness ∷ due ∷ []
values_in (BreakMissing run duration earliest) = fl run ∷ duration ∷ earliest ∷ []
values_in (TooFar run distance max) = fl run ∷ distance ∷ max ∷ []
values_in (TooLong run duration max) = fl run ∷ duration ∷ max ∷ []
values_in Best = []
values_in (Dearer by) = by ∷ []
values_in (Cheaper by) = by ∷ []
values_in (WheelchairOverload run load capacity) = fl run ∷ fl load ∷ fl capacity ∷ []
values_in (RoadClosed run leg) = fl run ∷ fl leg ∷ []
