-- On a sheet within the limits, held in floats, `build_route` answers as in crates/definitions. Assumes nothing.
use Prim.Native.Nat.{ℕ, suc, ◌+◌, ◌≤◌}
use native.Mathlib.Omega.{arith}
use mathlib.Core.Path.{◌≡◌, refl, sym, ap, ap₂, ◌∙◌}
use mathlib.Core.Bool.{Bool, true, false, not, ◌&&◌, not-not}
use mathlib.Core.List.{List, [], ◌∷◌, ◌++◌, map, map-append}
use Rattle.std.specs.Prelude.{Option, None, Some, option_map}
use lib.Dec.{ltb}
use lib.ListN.{length}
use Rattle.basics.specs.Options.{Holds, present, value_or}
use Rattle.basics.specs.Lists.{All, is_empty}
use Rattle.definitions.specs.Domain.{most_calls}
use Rattle.definitions.specs.Load.{Load, no_load, seated, wheeled}
use Rattle.definitions.specs.Sheet.{Break, Sheet, Leg, drive}
use Rattle.definitions.specs.Limits.{within}
use Rattle.definitions.specs.Run as Whole
use Rattle.definitions.specs.Run.{start, place_after, last_of, distance_from, first_closed, Totals, home, load}
use Rattle.definitions.specs.Clock.{clock, place_or, start_of}
use Rattle.definitions.specs.Visits.{Violation, break_not_placeable, over_capacity, over_distance, over_duration, over_wheelchairs, Route, visited, windows_from, last_label, unless, overloads, no_totals, open_route, build_route}
use Rattle.definitions.specs.Refusals.{Within, WithinCalls}
use Rattle.definitions.proofs.LoadLaws.{none-plus}
use Rattle.theorems.proofs.Roads.{open-distance, distance-home, home_by, home-is}
use Rattle.theorems.proofs.Visiting.{route-closed, route-open, visits-clock}
use Rattle.bounds.specs.Sized.{Small, Sized, Place}
use Rattle.bounds.proofs.Inside.{sized, few-calls, calls-inside, depot-inside, last-inside, leg-small}
use Rattle.bounds.specs.Bounds.{Early}
use Rattle.bounds.proofs.BoundLaws.{start-early, distance_most, last-most, start-most}
use Rattle.whole.specs.Whole.{fl, limit}
use Rattle.whole.proofs.WholeLaws.{fl-lt, fl-sum}
use Rattle.whole.proofs.Numbers.{not-ltb}
use Rattle.models.specs.Image.{fl_break}
use Rattle.models.proofs.Exact.{limit-exact}
use Rattle.distance.proofs.Exact.{fl_leg}
use Rattle.clock.specs.Image.{fl_totals}
use Rattle.evaluation.specs.Records.{Tables}
use Rattle.evaluation.specs.Image.{fl_limits, Image}
use Rattle.evaluation.proofs.ClockExact.{schedule-exact}
use Rattle.evaluation.proofs.RouteExact.{first-closed-exact, start-exact}
use Rattle.visits.specs.declared.visit.Violation as Held
use Rattle.visits.specs.Visiting.{placed_f, place_of, duration_f, missing_f, rest_at_f, start_trip, open_f, trip_f}
use Rattle.visits.specs.Violations.{over_f, when, overloads_f, checked_f}
use Rattle.visits.specs.Building.{built_f, open_route_f, route_f, build_route_f}
use Rattle.visits.specs.Image.{fl_violation, fl_route}
use Rattle.visits.proofs.Resting.{length_of, nowhere, no_place, agrees}
use Rattle.visits.proofs.VisitsExact.{fl_trip, fl_rest, Onward, open-exact, visits-exact, windows-exact, trip-exact}

-- ---- the violations

over-exact : (o : Option ℕ) (n : ℕ) → Holds Small o → n ≤ limit → over_f (option_map fl o) (fl n) ≡ not (within o n)
over-exact None n h i = refl
over-exact (Some m) n h i = rw (fl-lt m n (omega arith) i) (rw (← not-ltb m n) (sym (not-not (ltb m n))))

-- a violation where a test holds is one where the opposite test fails
when-exact : (b c : Bool) (v : Violation) → b ≡ not c → when b (fl_violation v) ≡ map fl_violation (unless c v)
unfolding when
when-exact b true v e = rw e
when-exact b false v e = rw e

empty-map : (l : List Violation) → is_empty (map fl_violation l) ≡ is_empty l
empty-map [] = refl
empty-map (v ∷ l) = refl

overloads-exact : (load capacity : Load) → overloads_f load capacity ≡ map fl_violation (overloads load capacity)
unfolding overloads_f
overloads-exact load capacity =
    let v = over_capacity load.seats capacity.seats in
    let w = over_wheelchairs load.wheelchairs capacity.wheelchairs in
    ap₂ (λ (vs ws : List Held.Violation). vs ++ ws) (when-exact _ (seated load capacity) v refl) (when-exact _ (wheeled load capacity) w refl)
    ∙ sym (map-append fl_violation (unless (seated load capacity) v) (unless (wheeled load capacity) w))

module _ (s : Sheet) (S : Sized s) (windows : List Violation) (missing : Bool) (load : Load) (distance duration : ℕ) (far : distance ≤ limit) (long : duration ≤ limit) where
  pub checked-exact : checked_f (map fl_violation windows) missing load s.head.capacity (fl_limits s) (fl distance) (fl duration)
      ≡ map fl_violation (windows
      ++ unless (not (missing && is_empty windows)) break_not_placeable
      ++ overloads load s.head.capacity
      ++ unless (within s.head.max_distance distance) (over_distance distance (value_or 0 s.head.max_distance))
      ++ unless (within s.head.max_duration duration) (over_duration duration (value_or 0 s.head.max_duration)))
  unfolding checked_f
  checked-exact =
      rw (
        empty-map windows,
        limit-exact s.head.max_distance,
        limit-exact s.head.max_duration,
        when-exact (missing && is_empty windows) (not (missing && is_empty windows)) break_not_placeable (sym (not-not (missing && is_empty windows))),
        overloads-exact load s.head.capacity,
        when-exact _ (within s.head.max_distance distance) (over_distance distance (value_or 0 s.head.max_distance)) (over-exact s.head.max_distance distance S.far-small far),
        when-exact _ (within s.head.max_duration duration) (over_duration duration (value_or 0 s.head.max_duration)) (over-exact s.head.max_duration duration S.long-small long),
      )
      (sym (simp map-append))

-- ---- the break

module _ (s : Sheet) (S : Sized s) (t : Tables) (I : Image s t) (calls : List ℕ) (few : length calls ≤ most_calls) (i : All (Place s) calls) where
  abbrev place : ℕ
  place = place_or (clock s calls)

  abbrev missing : Bool
  missing = present s.head.rest && not (present (clock s calls))

  abbrev began : Option ℕ
  began = start_of s (record { calls = calls; place = place })

  -- the place, and whether there is none
  placed-exact : (r : Option Break) → s.head.rest ≡ r
      → (place_of (placed_f t (option_map fl_break r) calls) ≡ place) × (missing_f (option_map fl_break r) (placed_f t (option_map fl_break r) calls) ≡ present r && not (present (clock s calls)))
  unfolding placed_f
  placed-exact None e = (go (clock s calls) refl, refl)
    where
      go : (o : Option Totals) → clock s calls ≡ o → 0 ≡ place_or o
      go None q = refl
      go (Some u) q = sym (no_place s calls e u q)
  placed-exact (Some b) e = rw (schedule-exact s S t I b e calls few i) (go (clock s calls))
    where
      go : (o : Option Totals) → (place_of (option_map fl_totals o) ≡ place_or o) × (not (present (option_map fl_totals o)) ≡ not (present o))
      go None = (refl, refl)
      go (Some u) = (refl, refl)

  length-exact : (o : Option Break) → duration_f (option_map fl_break o) ≡ fl (length_of o)
  length-exact None = refl
  length-exact (Some b) = refl

  rest-exact : rest_at_f t (option_map fl_break s.head.rest) calls ≡ fl_rest s place began missing
  unfolding rest_at_f
  rest-exact = let p = placed-exact s.head.rest refl in rw (p.1, p.0, length-exact s.head.rest, start-exact s S t I calls few i place)

  -- ---- the totals

  -- without a break place the label has none either
  last-unplaced : (k a : ℕ) (l : Whole.Label) (cs : List ℕ) → (last_label s 0 (suc k) a l cs).place ≡ l.place
  unfolding last_label visited
  last-unplaced k a l [] = refl
  last-unplaced k a l (c ∷ cs) = last-unplaced (suc k) c _ cs ∙ ap (λ (x : Option Break). place_after x (suc k) l.place) (nowhere s (suc k) (omega arith))

  -- the last label of the visits
  abbrev last : Whole.Label
  last = last_label s place 1 0 start calls

  last-early : Early (length calls) last
  last-early = last-most s S place calls few

  began-fits : Holds (λ (n : ℕ). n ≤ limit) began
  began-fits = go began refl
    where
      go : (o : Option ℕ) → began ≡ o → Holds (λ (n : ℕ). n ≤ limit) o
      go None q = tt
      go (Some n) q = omega (arith, start-most s S calls place few n q)

  -- ---- a run without a closed leg, so long and with the way home `w`

  module _ (roads : first_closed s calls ≡ None) (d : ℕ) (far : distance_from s 0 calls ≡ Some d) (w : Leg) (back : drive s (last_of 0 calls) 0 ≡ Some w) where
    abbrev totals : Totals
    totals = home_by s calls d w.travel last

    came-home : home s calls last ≡ Some totals
    came-home = home-is s calls d w far back last

    last-place : last.place ≡ place
    unfolding open_route
    last-place = go (clock s calls) refl
      where
        go : (o : Option Totals) → clock s calls ≡ o → last.place ≡ place
        go None q = rw q (last-unplaced 0 0 start calls)
        go (Some u) q =
            ap (λ (x : Option Totals). (value_or no_totals x).place) (sym came-home)
            ∙ ap (λ (x : Route). x.totals.place) (sym (route-open s calls roads))
            ∙ ap (λ (x : Totals). x.place) (visits-clock s calls u q).0
            ∙ sym (ap place_or q)

    distance-fits : d ≤ limit
    distance-fits = omega (arith, distance_most s S 0 calls d far)

    duration-fits : totals.duration ≤ limit
    duration-fits = omega (arith, last-early, (leg-small s S (last_of 0 calls) 0 w back).1)

    set_out : Onward s place began 0 1 0 start calls
    set_out = record { few = omega arith; from-inside = depot-inside s S; calls-inside = i; early = start-early; agreed = agrees s calls; roads = roads }

    -- the trip, with so far gone before the way home
    trip-home : (gone : ℕ) × (gone + w.length ≡ d) × (trip_f t (fl_rest s place began missing) 1 start_trip calls ≡ fl_trip (fl gone) last (load s calls) (last_of 0 calls))
    trip-home =
        let (gone, all, trip) = trip-exact s S t I place began missing began-fits 0 1 0 0 start no_load calls d far w back (omega (arith, distance-fits)) set_out in
        (gone, omega (arith, all), trip ∙ ap (λ (n : Load). fl_trip (fl gone) last n (last_of 0 calls)) (none-plus (load s calls)))

    way_home : open_f t (last_of 0 calls) 0 ≡ fl_leg w
    way_home = open-exact s S t I place began missing began-fits (last_of 0 calls) 0 (last-inside s 0 calls (depot-inside s S) i) (depot-inside s S) w back

    open-route-exact : open_route_f t s.head.capacity (fl_limits s) calls ≡ fl_route (open_route s calls)
    unfolding open_route_f open_route
    open-route-exact =
        let (gone, all, trip) = trip-home in
        ap (built_f t s.head.capacity (fl_limits s) calls) rest-exact
        ∙ rw (
          visits-exact s S t I place began missing began-fits 0 1 0 (fl 0) start no_load calls set_out,
          windows-exact s S t I place began missing began-fits 0 1 0 (fl 0) start no_load calls set_out,
          trip,
          way_home,
          fl-sum gone w.length (omega (arith, all, distance-fits)) ∙ ap fl all,
          fl-sum last.time w.travel duration-fits,
          checked-exact s S (windows_from s place 1 0 start calls) missing (load s calls) d totals.duration distance-fits duration-fits,
          came-home,
          last-place,
        )

  -- ---- the route

  pub build-exact : build_route_f t s.head.capacity (fl_limits s) calls ≡ fl_route (build_route s calls)
  unfolding build_route_f
  build-exact = ap (route_f t s.head.capacity (fl_limits s) calls) (first-closed-exact s S t I calls i) ∙ go (first_closed s calls) refl
    where
      go : (o : Option ℕ) → first_closed s calls ≡ o → route_f t s.head.capacity (fl_limits s) calls o ≡ fl_route (build_route s calls)
      go (Some leg) e = ap fl_route (sym (route-closed s calls leg e))
      go None e =
          let (d, far) = open-distance s 1 0 calls e in
          let (w, back) = distance-home s 0 calls d far in
          open-route-exact e d far w back ∙ ap fl_route (sym (route-open s calls e))

-- ---- by the limits of the Domain

-- the answer on floats is that of the definitions, each figure held in a float
pub built-exact : (s : Sheet) → Within s → (t : Tables) → Image s t → (calls : List ℕ) → WithinCalls s calls
    → build_route_f t s.head.capacity (fl_limits s) calls ≡ fl_route (build_route s calls)
built-exact s W t I calls C = build-exact s (sized s W) t I calls (few-calls s calls C) (calls-inside s calls C)
