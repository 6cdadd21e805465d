-- The mark of a cutting with break places. Definitions only.
use Rattle.std.specs.Prelude.{ℕ, suc, ◌+◌, ◌-◌, cond, not, List, [], ◌∷◌, length, ltb, eqb, Option, None, Some, option_map}
use Rattle.basics.specs.Options.{◌>>=◌, value_or, or_else, given}
use Rattle.definitions.specs.Load.{Load, seated}
use Rattle.definitions.specs.Sheet.{Break, Sheet, customer, drive}
use Rattle.definitions.specs.Window.{due_of}
use Rattle.definitions.specs.Limits.{within}
use Rattle.definitions.specs.Run.{break_start, ready, Label, start, serve, Run, break_at, first_closed, Totals, ride, load, fits, placed}
use Rattle.definitions.specs.Cutting.{joined, cutting_cost}
use Rattle.definitions.specs.Placement.{Placement, by_clock}
use Rattle.definitions.specs.Drop.{Result, split_by}

-- ---- the runs given: calls and each run's break place (1 up, 0 none); places beyond the runs are not read

abbrev pub with_places : List (List ℕ) → List ℕ → List Run
with_places [] places = []
with_places (r ∷ rs) [] = record { calls = r; place = 0 } ∷ with_places rs []
with_places (r ∷ rs) (p ∷ places) = record { calls = r; place = p } ∷ with_places rs places

-- ---- the verdicts

-- A fault carries its run from 1, and the value and limit that clash; a window or break fault also the
-- call's place, from 1, and its customer, and a closed leg its number in the run alone: leg 1 leaves the depot.
pub data Verdict : Type 0 where
  -- the joined calls differ from the planner's served customers, first at this position, from 1
  other_calls : (position : ℕ) → Verdict
  overload : (run load capacity : ℕ) → Verdict
  break_too_late : (run place customer start latest : ℕ) → Verdict
  window_missed : (run place customer readiness due : ℕ) → Verdict
  break_missing : (run duration earliest : ℕ) → Verdict
  too_far : (run distance limit : ℕ) → Verdict
  too_long : (run duration limit : ℕ) → Verdict
  best : Verdict
  dearer : (by : ℕ) → Verdict
  cheaper : (by : ℕ) → Verdict
  -- the second load
  wheelchair_overload : (run load capacity : ℕ) → Verdict
  -- the first leg of the run without a road
  road_closed : (run leg : ℕ) → Verdict

-- The verdicts in the scope document's order, numbered from 1, and the values of each. A verdict of a later request takes the next number,
-- so that those which programs know stay.
abbrev pub verdict_number : Verdict → ℕ
verdict_number (other_calls position) = 1
verdict_number (overload run load capacity) = 2
verdict_number (break_too_late run place customer start latest) = 3
verdict_number (window_missed run place customer readiness due) = 4
verdict_number (break_missing run duration earliest) = 5
verdict_number (too_far run distance limit) = 6
verdict_number (too_long run duration limit) = 7
verdict_number best = 8
verdict_number (dearer by) = 9
verdict_number (cheaper by) = 10
verdict_number (wheelchair_overload run load capacity) = 11
verdict_number (road_closed run leg) = 12

abbrev pub verdict_values : Verdict → List ℕ
verdict_values (other_calls position) = position ∷ []
verdict_values (overload run load capacity) = run ∷ load ∷ capacity ∷ []
verdict_values (break_too_late run place customer start latest) = run ∷ place ∷ customer ∷ start ∷ latest ∷ []
verdict_values (window_missed run place customer readiness due) = run ∷ place ∷ customer ∷ readiness ∷ due ∷ []
verdict_values (break_missing run duration earliest) = run ∷ duration ∷ earliest ∷ []
verdict_values (too_far run distance limit) = run ∷ distance ∷ limit ∷ []
verdict_values (too_long run duration limit) = run ∷ duration ∷ limit ∷ []
verdict_values best = []
verdict_values (dearer by) = by ∷ []
verdict_values (cheaper by) = by ∷ []
verdict_values (wheelchair_overload run load capacity) = run ∷ load ∷ capacity ∷ []
verdict_values (road_closed run leg) = run ∷ leg ∷ []

-- ---- faults

-- the first position, from k, where they differ or one list has ended
abbrev pub differ : ℕ → List ℕ → List ℕ → Option ℕ
differ k [] [] = None
differ k [] (y ∷ ys) = Some k
differ k (x ∷ xs) [] = Some k
differ k (x ∷ xs) (y ∷ ys) = cond (eqb x y) (differ (suc k) xs ys) (Some k)

abbrev pub break_or : Option Break → Break
break_or b = value_or (record { earliest = 0; latest = 0; duration = 0 }) b

-- why a call fails that is reached at `arrival`: break start past latest before window
abbrev pub arrival_fault : Sheet → ℕ → Option Break → ℕ → ℕ → ℕ → Verdict
arrival_fault s n here k c arrival =
    elim (ready here arrival) [
      | None ↦ break_too_late n k c (break_start (break_or here) arrival) (break_or here).latest
      | Some readiness ↦ window_missed n k c readiness (due_of (customer s c).window)
    ]

-- why a call fails
abbrev pub call_fault : Sheet → ℕ → Option Break → ℕ → ℕ → ℕ → Label → Verdict
call_fault s n here k a c l =
    elim (drive s a c) [
      | None ↦ road_closed n k
      | Some leg ↦ arrival_fault s n here k c (l.time + leg.travel)
    ]

-- the first fault walking the calls of run n
unfoldable pub walk_fault : Sheet → ℕ → ℕ → ℕ → ℕ → Label → List ℕ → Option Verdict
walk_fault s n place k a l [] = None
walk_fault s n place k a l (c ∷ cs) =
    elim (serve s (break_at s place k) k a c l) [
      | None ↦ Some (call_fault s n (break_at s place k) k a c l)
      | Some m ↦ walk_fault s n place (suc k) c m cs
    ]

-- In what the run comes to: a missing break where one is needed, distance, duration. Where the break's place is not legal, the
-- place is 0 on a sheet with a break: one beyond its run, or on a sheet without a break, is refused by 5 before anything is marked.
abbrev pub total_fault : Sheet → ℕ → Run → Totals → Option Verdict
total_fault s n r t =
    or_else (given (not (placed s.head.rest r.place (length r.calls) t.duration))
    (break_missing n t.duration (break_or s.head.rest).earliest))
    (or_else (given (not (within s.head.max_distance t.distance)) (too_far n t.distance (value_or 0 s.head.max_distance)))
    (given (not (within s.head.max_duration t.duration)) (too_long n t.duration (value_or 0 s.head.max_duration))))

-- the measure in which a load is over what the vehicle holds: seats, and where these are within it wheelchair places
abbrev pub overload_of : ℕ → Load → Load → Verdict
overload_of n load capacity =
    cond (seated load capacity)
    (wheelchair_overload n load.wheelchairs capacity.wheelchairs)
    (overload n load.seats capacity.seats)

-- the first fault of run n: a closed leg, wherever it is in the run, then load, the calls, the totals
unfoldable pub run_fault : Sheet → ℕ → Run → Option Verdict
run_fault s n r =
    or_else (option_map (road_closed n) (first_closed s r.calls))
    (or_else (given (not (fits s r.calls)) (overload_of n (load s r.calls) s.head.capacity))
    (or_else (walk_fault s n r.place 1 0 start r.calls)
    (ride s r >>= total_fault s n r)))

abbrev pub first_fault : Sheet → ℕ → List Run → Option Verdict
first_fault s n [] = None
first_fault s n (r ∷ rs) = or_else (run_fault s n r) (first_fault s (suc n) rs)

-- ---- the mark

-- against the planner's cost
abbrev pub against : ℕ → ℕ → Verdict
against planner cost = cond (ltb planner cost) (dearer (cost - planner)) (cond (ltb cost planner) (cheaper (planner - cost)) best)

-- the mark against a plan
unfoldable pub mark_against : Sheet → Result → List Run → Verdict
mark_against s plan runs =
    elim (differ 1 (joined runs) plan.served) [
      | Some position ↦ other_calls position
      | None ↦ value_or (against plan.cost (cutting_cost s runs)) (first_fault s 1 runs)
    ]

-- the planner's is that of `split_tw`, for either placement of its breaks ..
abbrev pub mark_by : Placement → Sheet → List ℕ → List Run → Verdict
mark_by p s tour runs = mark_against s (split_by p s tour) runs

-- .. and by the clock
abbrev pub mark : Sheet → List ℕ → List Run → Verdict
mark s tour runs = mark_by by_clock s tour runs
