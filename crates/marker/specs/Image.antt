-- Verdicts of whole numbers, each figure held in a float, and a sheet of whole numbers as runs are marked on it. Definitions only.
use Rattle.std.specs.Prelude.{ℕ, ◌≡◌, Option, None, Some, Result, Ok, Err, Float}
use Rattle.definitions.specs.Sheet.{Sheet}
use Rattle.definitions.specs.Marker as Whole
use Rattle.definitions.specs.Marker.{other_calls, overload, break_too_late, window_missed, break_missing, too_far, too_long, best, dearer, cheaper, wheelchair_overload, road_closed}
use Rattle.whole.specs.Whole.{fl}
use Rattle.evaluation.specs.Image.{fl_limits}
use Rattle.evaluation.specs.Image as Tables
use Rattle.marker.specs.declared.verdict.Verdict.{Verdict}
use Rattle.marker.specs.declared.verdict.Verdict.TheVariants.{OtherCalls, Overload, BreakTooLate, WindowMissed, BreakMissing, TooFar, TooLong, Best, Dearer, Cheaper, WheelchairOverload, RoadClosed}
use Rattle.marker.specs.RunMark.{Ground}

abbrev pub fl_verdict : Whole.Verdict → Verdict
fl_verdict (other_calls position) = OtherCalls position
fl_verdict (overload run load capacity) = Overload run load capacity
fl_verdict (break_too_late run place customer start latest) = BreakTooLate run place customer (fl start) (fl latest)
fl_verdict (window_missed run place customer readiness due) = WindowMissed run place customer (fl readiness) (fl due)
fl_verdict (break_missing run duration earliest) = BreakMissing run (fl duration) (fl earliest)
fl_verdict (too_far run distance limit) = TooFar run (fl distance) (fl limit)
fl_verdict (too_long run duration limit) = TooLong run (fl duration) (fl limit)
fl_verdict best = Best
fl_verdict (dearer by) = Dearer (fl by)
fl_verdict (cheaper by) = Cheaper (fl by)
fl_verdict (wheelchair_overload run load capacity) = WheelchairOverload run load capacity
fl_verdict (road_closed run leg) = RoadClosed run leg

-- a fault, or the cost where there is none
abbrev pub fl_marked : Option Whole.Verdict → ℕ → Result Float Verdict
fl_marked (Some v) cost = Err (fl_verdict v)
fl_marked None cost = Ok (fl cost)

-- what is lent holds the sheet
pub record Image (s : Sheet) (G : Ground) : Type 0 where
  pub tables-hold : Tables.Image s G.tables
  pub capacity-holds : G.capacity ≡ s.head.capacity
  pub fixed-holds : G.fixed ≡ fl s.head.fixed
  pub limits-hold : G.limits ≡ fl_limits s
