-- How many visits and violations a timeline has at the most. Assumes nothing.
use Prim.Native.Nat.{ℕ, suc, ◌+◌, ◌≤◌}
use native.Mathlib.Omega.{arith}
use mathlib.Core.Bool.{Bool, true, false, not, ◌&&◌}
use mathlib.Core.List.{List, [], ◌∷◌, ◌++◌}
use Rattle.std.specs.Prelude.{Option, None, Some}
use lib.Ieee.{Float}
use lib.ListN.{length, length-append}
use Rattle.basics.specs.Lists.{is_empty}
use Rattle.basics.proofs.TestLaws.{by-test}
use Rattle.definitions.specs.Load.{Load, seated, wheeled}
use Rattle.evaluation.specs.Records.{Tables, LimitsF}
use Rattle.evaluation.specs.Tables.{leg_f}
use Rattle.evaluation.specs.Way.{closed_f}
use Rattle.models.specs.Limits.{limit_f}
use Rattle.visits.specs.declared.visit.ViolationType.TheVariants.{BreakNotPlaceable, MaxDistanceExceeded, MaxDurationExceeded}
use Rattle.visits.specs.declared.visit.Violation.{Violation}
use Rattle.visits.specs.Visiting.{RestF, TripF, start_trip, visit_at_f, windows_f, trip_f}
use Rattle.visits.specs.Violations.{when, over_f, over_capacity_f, over_wheelchairs_f, overloads_f, checked_f}
use Rattle.visits.specs.Building.{home_f}
use Rattle.visits.proofs.Assembling.{visits-counted}
use Rattle.timeline.specs.Timing.{given_rest_f, untaken_f, open_timeline_f, timeline_by_f, timeline_f}

windows-few : (t : Tables) (r : RestF) (k : ℕ) (x : TripF) (calls : List ℕ) → length (windows_f t r k x calls) ≤ length calls
unfolding windows_f
windows-few t r k x [] = omega arith
windows-few t r k x (c ∷ cs) =
    let rest = windows-few t r (suc k) (visit_at_f t r k x c).trip cs in
    by-test (visit_at_f t r k x c).shut (λ y. rw y (omega (arith, rest))) (λ f. rw f (omega (arith, rest)))

when-few : (b : Bool) (v : Violation) → length (when b v) ≤ 1
unfolding when
when-few true v = omega arith
when-few false v = omega arith

overloads-few : (load capacity : Load) → length (overloads_f load capacity) ≤ 2
unfolding overloads_f
overloads-few load capacity =
    let heavy = when (not (seated load capacity)) (over_capacity_f load capacity) in
    let wheeling = when (not (wheeled load capacity)) (over_wheelchairs_f load capacity) in
    omega (arith, length-append heavy wheeling, when-few (not (seated load capacity)) (over_capacity_f load capacity), when-few (not (wheeled load capacity)) (over_wheelchairs_f load capacity))

checked-few : (windows : List Violation) (missing : Bool) (load capacity : Load) (limits : LimitsF) (distance duration : Float)
    → length (checked_f windows missing load capacity limits distance duration) ≤ length windows + 5
unfolding checked_f
checked-few windows missing load capacity limits distance duration =
    let unplaced = missing && is_empty windows in
    let far = over_f limits.max_distance distance in
    let long = over_f limits.max_duration duration in
    let b₁ : Violation = record { kind = BreakNotPlaceable } in
    let b₂ : Violation = record { kind = MaxDistanceExceeded distance (limit_f limits.max_distance) } in
    let b₃ : Violation = record { kind = MaxDurationExceeded duration (limit_f limits.max_duration) } in
    let one = windows ++ when unplaced b₁ in
    let two = one ++ overloads_f load capacity in
    let three = two ++ when far b₂ in
    omega (
      arith,
      length-append three (when long b₃),
      length-append two (when far b₂),
      length-append one (overloads_f load capacity),
      length-append windows (when unplaced b₁),
      when-few unplaced b₁,
      overloads-few load capacity,
      when-few far b₂,
      when-few long b₃,
    )

module _ (t : Tables) (capacity : Load) (limits : LimitsF) (place : ℕ) (calls : List ℕ) where
  by-leg : (o : Option ℕ) → (length (timeline_by_f t capacity limits place calls o).route.visits ≤ length calls)
      × (length (timeline_by_f t capacity limits place calls o).route.violations ≤ length calls + 5)
  unfolding open_timeline_f
  by-leg (Some leg) = (omega arith, omega arith)
  by-leg None =
      let r = given_rest_f t limits.rest place calls in
      let x = trip_f t r 1 start_trip calls in
      let totals = home_f t place x in
      let missing = untaken_f limits.rest place r.start totals.duration in
      let windows = windows_f t r 1 start_trip calls in (
        omega (arith, visits-counted t r 1 start_trip calls),
        omega (arith, checked-few windows missing x.load capacity limits totals.distance totals.duration, windows-few t r 1 start_trip calls),
      )

  pub counts : (length (timeline_f t capacity limits place calls).route.visits ≤ length calls) × (length (timeline_f t capacity limits place calls).route.violations ≤ length calls + 5)
  unfolding timeline_f
  counts = by-leg (closed_f (leg_f t) 1 0 calls)
