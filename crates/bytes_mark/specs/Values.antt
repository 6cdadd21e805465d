-- What is asked of a verdict whose values are written as floats. Definitions only.
use Rattle.std.specs.Prelude.{◌≤◌}
use Rattle.whole.specs.Whole.{limit}
use Rattle.marker.specs.declared.verdict.Verdict.{Verdict}
use Rattle.marker.specs.declared.verdict.Verdict.TheVariants.{OtherCalls, Overload, BreakTooLate, WindowMissed, BreakMissing, TooFar, TooLong, Best, Dearer, Cheaper, WheelchairOverload, RoadClosed}

-- each whole number that it has is one that a float holds exactly
abbrev pub Small : Verdict → Type 0
Small (OtherCalls position) = position ≤ limit
Small (Overload run load capacity) = (run ≤ limit) × (load ≤ limit)
Small (BreakTooLate run place customer start latest) = (run ≤ limit) × (place ≤ limit) × (customer ≤ limit)
Small (WindowMissed run place customer readiness due) = (run ≤ limit) × (place ≤ limit) × (customer ≤ limit)
Small (BreakMissing run duration earliest) = run ≤ limit
Small (TooFar run distance max) = run ≤ limit
Small (TooLong run duration max) = run ≤ limit
Small Best = Unit {0}
Small (Dearer by) = Unit {0}
Small (Cheaper by) = Unit {0}
Small (WheelchairOverload run load capacity) = (run ≤ limit) × (load ≤ limit)
Small (RoadClosed run leg) = (run ≤ limit) × (leg ≤ limit)
