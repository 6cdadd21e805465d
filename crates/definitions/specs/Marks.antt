-- What each mark means, verdict by verdict. Definitions only.
use Rattle.std.specs.Prelude.{ℕ, suc, ◌+◌, ◌≤◌, ◌<◌, ◌≡◌, true, false, cond, not, List, ◌∷◌, ◌++◌, length, get_or, take, Option, None, Some}
use Rattle.basics.specs.Options.{present}
use Rattle.basics.specs.Lists.{is_empty}
use Rattle.definitions.specs.Load.{seated}
use Rattle.definitions.specs.Sheet.{Window, Break, Sheet, Leg, customer, drive}
use Rattle.definitions.specs.Limits.{within, excused}
use Rattle.definitions.specs.Run.{break_start, ready, Label, start, Run, break_at, serve_all, last_of, first_closed, Totals, ride, load, fits, placed}
use Rattle.definitions.specs.Cutting.{joined, legal_cutting, cutting_cost}
use Rattle.definitions.specs.Drop.{Result}
use Rattle.definitions.specs.Marker.{Verdict, other_calls, overload, break_too_late, window_missed, break_missing, too_far, too_long, best, dearer, cheaper, wheelchair_overload, road_closed}

-- ---- the runs that are marked: what refusal 5 leaves

-- the break place is one of the run's calls, or 0; on a sheet without a break it is 0
abbrev pub Placeable : Sheet → Run → Type 0
Placeable s r = r.place ≤ cond (present s.head.rest) (length r.calls) 0

-- and the run is not empty
pub record Proper (s : Sheet) (r : Run) : Type 0 where
  pub placeable : Placeable s r
  pub some-calls : not (is_empty r.calls) ≡ true

-- ---- other calls

-- Position p, counted from k, is the first where the lists differ or one has ended: up to it they are
-- the same, and with it they no longer are.
pub record Differs (k : ℕ) (xs ys : List ℕ) (p : ℕ) : Type 0 where
  pub before : ℕ
  pub position : k + before ≡ p
  pub same-before : take before xs ≡ take before ys
  pub differ-there : take (suc before) xs ≡ take (suc before) ys → ⊥

-- ---- the faults of a run, in order: each says that the tests before it hold, and which value is over which limit

-- leg number i of the calls, from 0: from the call before, or the depot, to call number i, or home
abbrev pub leg_of : Sheet → List ℕ → ℕ → Option Leg
leg_of s calls i = drive s (last_of 0 (take i calls)) (get_or calls i 0)

-- the leg of that number, from 1, is closed, and those before it are not
pub record Closed (s : Sheet) (calls : List ℕ) (leg : ℕ) : Type 0 where
  pub before : ℕ
  pub number : suc before ≡ leg
  pub inside : before ≤ length calls
  pub open-before : (i : ℕ) → i < before → present (leg_of s calls i) ≡ true
  pub closed : leg_of s calls before ≡ None

-- no leg of the calls is closed
abbrev pub Open : Sheet → List ℕ → Type 0
Open s calls = first_closed s calls ≡ None

-- no leg is closed, and the seats are over capacity
pub record Overloaded (s : Sheet) (r : Run) (value limit : ℕ) : Type 0 where
  pub roads : Open s r.calls
  pub value-is : (load s r.calls).seats ≡ value
  pub limit_is : s.head.capacity.seats ≡ limit
  pub over : limit < value

-- the seats are within it, and the second load is over the second capacity
pub record WheelchairsOver (s : Sheet) (r : Run) (value limit : ℕ) : Type 0 where
  pub roads : Open s r.calls
  pub seats-fit : seated (load s r.calls) s.head.capacity ≡ true
  pub value-is : (load s r.calls).wheelchairs ≡ value
  pub limit_is : s.head.capacity.wheelchairs ≡ limit
  pub over : limit < value

-- call number k of the run, at customer c, is reached: no leg is closed, the load fits, and the calls before it are served, which leaves a
-- label
pub record Reached (s : Sheet) (r : Run) (k c : ℕ) : Type 0 where
  pub roads : Open s r.calls
  pub room : fits s r.calls ≡ true
  pub before : ℕ
  pub number : suc before ≡ k
  pub inside : before < length r.calls
  pub call-is : get_or r.calls before 0 ≡ c
  pub label : Label
  pub served : serve_all s r.place 1 0 (Some start) (take before r.calls) ≡ Some label
  pub leg : Leg
  pub leg-is : leg_of s r.calls before ≡ Some leg

-- when it is reached
abbrev pub arrival : {s : Sheet} {r : Run} {k c : ℕ} → Reached s r k c → ℕ
arrival x = x.label.time + x.leg.travel

-- the break is at that call, and would start past latest
pub record BreakLate (s : Sheet) (r : Run) (k c value limit : ℕ) : Type 0 where
  pub reached : Reached s r k c
  pub break : Break
  pub rested : s.head.rest ≡ Some break
  pub here : r.place ≡ k
  pub value-is : break_start break (arrival reached) ≡ value
  pub limit_is : break.latest ≡ limit
  pub over : limit < value

-- the break, if it is at that call, can start; readiness is after due, and there is no penalty
pub record WindowLate (s : Sheet) (r : Run) (k c value limit : ℕ) : Type 0 where
  pub reached : Reached s r k c
  pub value-is : ready (break_at s r.place k) (arrival reached) ≡ Some value
  pub window : Window
  pub shuts : (customer s c).window ≡ Some window
  pub hard : (customer s c).penalty ≡ None
  pub limit_is : window.due ≡ limit
  pub over : limit < value

-- no leg is closed, the load fits, and all calls are served: the run comes to t
pub record Home (s : Sheet) (r : Run) (t : Totals) : Type 0 where
  pub roads : Open s r.calls
  pub room : fits s r.calls ≡ true
  pub rode : ride s r ≡ Some t

-- there is a break on the sheet and none in the run, which is not excused
pub record BreakLeftOut (s : Sheet) (r : Run) (value limit : ℕ) : Type 0 where
  pub totals : Totals
  pub at_home : Home s r totals
  pub break : Break
  pub rested : s.head.rest ≡ Some break
  pub nowhere : r.place ≡ 0
  pub value-is : totals.duration ≡ value
  pub limit_is : break.earliest ≡ limit
  pub needed : excused break totals.duration ≡ false

-- the break is where it may be, and the distance is over its limit
pub record Far (s : Sheet) (r : Run) (value limit : ℕ) : Type 0 where
  pub totals : Totals
  pub at_home : Home s r totals
  pub break-placed : placed s.head.rest r.place (length r.calls) totals.duration ≡ true
  pub value-is : totals.distance ≡ value
  pub limit_is : s.head.max_distance ≡ Some limit
  pub over : limit < value

-- the distance is within its limit, and the duration over its own
pub record Long (s : Sheet) (r : Run) (value limit : ℕ) : Type 0 where
  pub totals : Totals
  pub at_home : Home s r totals
  pub break-placed : placed s.head.rest r.place (length r.calls) totals.duration ≡ true
  pub near : within s.head.max_distance totals.distance ≡ true
  pub value-is : totals.duration ≡ value
  pub limit_is : s.head.max_duration ≡ Some limit
  pub over : limit < value

-- the verdict is a fault of run number n: what it then says
pub data Fails (s : Sheet) (n : ℕ) (r : Run) : Verdict → Type 0 where
  by-road : {leg : ℕ} → Closed s r.calls leg → Fails s n r (road_closed n leg)
  by-load : {value limit : ℕ} → Overloaded s r value limit → Fails s n r (overload n value limit)
  by-wheelchairs : {value limit : ℕ} → WheelchairsOver s r value limit → Fails s n r (wheelchair_overload n value limit)
  by-break : {k c value limit : ℕ} → BreakLate s r k c value limit → Fails s n r (break_too_late n k c value limit)
  by-window : {k c value limit : ℕ} → WindowLate s r k c value limit → Fails s n r (window_missed n k c value limit)
  by-missing : {value limit : ℕ} → BreakLeftOut s r value limit → Fails s n r (break_missing n value limit)
  by-distance : {value limit : ℕ} → Far s r value limit → Fails s n r (too_far n value limit)
  by-duration : {value limit : ℕ} → Long s r value limit → Fails s n r (too_long n value limit)

-- it is the first fault of the runs, numbered from n: all runs before the faulty one are legal
pub record FirstFails (s : Sheet) (n : ℕ) (rs : List Run) (v : Verdict) : Type 0 where
  pub earlier : List Run
  pub faulty : Run
  pub later : List Run
  pub runs-are : rs ≡ earlier ++ (faulty ∷ later)
  pub earlier-legal : legal_cutting s earlier ≡ true
  pub number : ℕ
  pub number_is : n + length earlier ≡ number
  pub fails : Fails s number faulty v

-- ---- against the planner's cost

-- the runs are legal with their places, and join to the planner's served customers
abbrev pub Cuts : Sheet → Result → List Run → Type 0
Cuts s plan rs = (joined rs ≡ plan.served) × (legal_cutting s rs ≡ true)

-- the same cost, or dearer or cheaper by something
pub data Compared (planner cost : ℕ) : Verdict → Type 0 where
  equal : cost ≡ planner → Compared planner cost best
  above : {d : ℕ} → cost ≡ planner + d → 0 < d → Compared planner cost (dearer d)
  below : {d : ℕ} → planner ≡ cost + d → 0 < d → Compared planner cost (cheaper d)

-- ---- what a verdict on runs says, held against the planner's

pub data Says (s : Sheet) (plan : Result) (rs : List Run) : Verdict → Type 0 where
  -- other calls, first at that position
  other : {p : ℕ} → Differs 1 (joined rs) plan.served p → Says s plan rs (other_calls p)
  -- the served calls, and the first fault
  fault : {v : Verdict} → joined rs ≡ plan.served → FirstFails s 1 rs v → Says s plan rs v
  -- the served calls, legal runs, and their cost against the planner's
  priced : {v : Verdict} → Cuts s plan rs → Compared plan.cost (cutting_cost s rs) v → Says s plan rs v
