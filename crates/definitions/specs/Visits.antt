-- Visits: what `build_route` answers. Definitions only.
use Rattle.std.specs.Prelude.{ℕ, suc, ◌+◌, Bool, true, false, cond, not, ◌&&◌, List, [], ◌∷◌, ◌++◌, Option, None, Some}
use Rattle.basics.specs.Options.{present, value_or}
use Rattle.basics.specs.Lists.{is_empty}
use Rattle.definitions.specs.Load.{Load, no_load, plus, seated, wheeled}
use Rattle.definitions.specs.Sheet.{Break, Sheet, customer, time}
use Rattle.definitions.specs.Window.{due_of, begins, Entry, enter}
use Rattle.definitions.specs.Limits.{within}
use Rattle.definitions.specs.Run.{ready, Label, start, place_after, break_at, first_closed, Totals, home, load}
use Rattle.definitions.specs.Clock.{clock, place_or, start_of}

-- ---- visits and violations

-- a call visited
pub record Visit : Type 0 where
  pub customer : ℕ
  -- before the break, if it is here
  pub arrival : ℕ
  pub departure : ℕ
  -- with this call's
  pub load : Load

-- a violation with its figures
pub data Violation : Type 0 where
  window_shut : (customer readiness due : ℕ) → Violation
  break_not_placeable : Violation
  over_capacity : (load capacity : ℕ) → Violation
  over_distance : (distance limit : ℕ) → Violation
  over_duration : (duration limit : ℕ) → Violation
  -- the second load
  over_wheelchairs : (load capacity : ℕ) → Violation
  -- this leg of the run is the first without a road; leg 1 leaves the depot
  closed_leg : (leg : ℕ) → Violation

-- The violations in the scope document's order, numbered from 1, and the figures of each. One of a later request takes the next number.
abbrev pub violation_number : Violation → ℕ
violation_number (window_shut customer readiness due) = 1
violation_number break_not_placeable = 2
violation_number (over_capacity load capacity) = 3
violation_number (over_distance distance limit) = 4
violation_number (over_duration duration limit) = 5
violation_number (over_wheelchairs load capacity) = 6
violation_number (closed_leg leg) = 7

abbrev pub violation_values : Violation → List ℕ
violation_values (window_shut customer readiness due) = customer ∷ readiness ∷ due ∷ []
violation_values break_not_placeable = []
violation_values (over_capacity load capacity) = load ∷ capacity ∷ []
violation_values (over_distance distance limit) = distance ∷ limit ∷ []
violation_values (over_duration duration limit) = duration ∷ limit ∷ []
violation_values (over_wheelchairs load capacity) = load ∷ capacity ∷ []
violation_values (closed_leg leg) = leg ∷ []

-- ---- the walk, along a run without a closed leg

-- when the bus is at customer c, from place a; on such a run there is a time, so the 0 is never read
abbrev pub arrives_at : Sheet → ℕ → ℕ → Label → ℕ
arrives_at s a c l = l.time + value_or 0 (time s a c)

-- when readiness is, at customer c
abbrev pub ready_for : Sheet → Option Break → ℕ → ℕ → Label → ℕ
ready_for s here a c l = let arrival = arrives_at s a c l in value_or arrival (ready here arrival)

abbrev pub entered : Sheet → ℕ → ℕ → Option Entry
entered s c readiness = enter (customer s c).window (customer s c).penalty readiness

-- a call is visited too where it is reached too late
unfoldable pub visited : Sheet → Option Break → ℕ → ℕ → ℕ → Label → Label
visited s here k a c l =
    let readiness = ready_for s here a c l in
    let e = value_or (record { start = begins (customer s c).window readiness; lateness = 0; pay = 0 }) (entered s c readiness) in
    record {
      time = e.start + (customer s c).service;
      lateness = l.lateness + e.lateness;
      pay = l.pay + e.pay;
      place = place_after here k l.place;
    }

-- the calls from number k on, visited from a with the label l and the load n
module _ (s : Sheet) (place : ℕ) where
  unfoldable pub visits_from : ℕ → ℕ → Label → Load → List ℕ → List Visit
  visits_from k a l n [] = []
  visits_from k a l n (c ∷ cs) =
      let m = visited s (break_at s place k) k a c l in
      let load = plus n (customer s c).demand in
      record { customer = c; arrival = arrives_at s a c l; departure = m.time; load = load } ∷ visits_from (suc k) c m load cs

  unfoldable pub windows_from : ℕ → ℕ → Label → List ℕ → List Violation
  windows_from k a l [] = []
  windows_from k a l (c ∷ cs) =
      let readiness = ready_for s (break_at s place k) a c l in
      let rest = windows_from (suc k) c (visited s (break_at s place k) k a c l) cs in
      cond (present (entered s c readiness)) rest (window_shut c readiness (due_of (customer s c).window) ∷ rest)

  unfoldable pub last_label : ℕ → ℕ → Label → List ℕ → Label
  last_label k a l [] = l
  last_label k a l (c ∷ cs) = last_label (suc k) c (visited s (break_at s place k) k a c l) cs

-- ---- the route

-- what a run comes to, visit by visit, allowed or not
pub record Route : Type 0 where
  pub visits : List Visit
  -- distance, duration, lateness, lateness pay and break place
  pub totals : Totals
  pub load : Load
  -- when the break starts, if there is one
  pub start : Option ℕ
  pub violations : List Violation

-- a violation where the test fails
abbrev pub unless : Bool → Violation → List Violation
unless true v = []
unless false v = v ∷ []

-- each measure in which a load is over what a vehicle holds: seats, then wheelchair places
abbrev pub overloads : Load → Load → List Violation
overloads load capacity =
    unless (seated load capacity) (over_capacity load.seats capacity.seats)
    ++ unless (wheeled load capacity) (over_wheelchairs load.wheelchairs capacity.wheelchairs)

-- all totals 0
abbrev pub no_totals : Totals
no_totals = record { distance = 0; duration = 0; lateness = 0; pay = 0; place = 0 }

-- of a run with a closed leg its first is the only thing reported: nothing is visited
abbrev pub closed_route : ℕ → Route
closed_route leg = record { visits = []; totals = no_totals; load = no_load; start = None; violations = closed_leg leg ∷ [] }

-- What a run violates: windows by visit, break not placeable (`told`; only if no window violation), capacity, distance, duration.
abbrev pub violations_of : Sheet → List ℕ → List Violation → Bool → Totals → List Violation
violations_of s calls windows told totals =
    windows
    ++ unless (not told) break_not_placeable
    ++ overloads (load s calls) s.head.capacity
    ++ unless (within s.head.max_distance totals.distance) (over_distance totals.distance (value_or 0 s.head.max_distance))
    ++ unless (within s.head.max_duration totals.duration) (over_duration totals.duration (value_or 0 s.head.max_duration))

-- Of a run without one: the break is where the clock puts it; an unplaceable break is left out of the visit times. Such a run has a way
-- home, so `no_totals` is never read.
unfoldable pub open_route : Sheet → List ℕ → Route
open_route s calls =
    let placed = clock s calls in
    let place = place_or placed in
    let windows = windows_from s place 1 0 start calls in
    let totals = value_or no_totals (home s calls (last_label s place 1 0 start calls)) in
    record {
      visits = visits_from s place 1 0 start no_load calls;
      totals = totals;
      load = load s calls;
      start = start_of s (record { calls = calls; place = place });
      violations = violations_of s calls windows (present s.head.rest && not (present placed) && is_empty windows) totals;
    }

unfoldable pub build_route : Sheet → List ℕ → Route
build_route s calls =
    elim (first_closed s calls) [
      | Some leg ↦ closed_route leg
      | None ↦ open_route s calls
    ]
