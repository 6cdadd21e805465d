-- On a sheet within the limits, held in floats, `timeline_of` answers as in crates/definitions. Assumes nothing.
use Prim.Native.Nat.{ℕ, zero, suc, ◌+◌, ◌≤◌, ◌<◌}
use native.Mathlib.Omega.{arith}
use native.Mathlib.Nat.{not-suc-le-zero}
use mathlib.Core.Path.{◌≡◌, refl, sym, ap, subst, ◌∙◌}
use mathlib.Core.Bool.{Bool, false, not, ◌||◌, ◌&&◌}
use mathlib.Core.List.{List, [], ◌∷◌, map}
use Rattle.std.specs.Prelude.{Option, None, Some, option_map}
use lib.Dec.{eqb}
use lib.ListN.{length, get_or, get_or-map}
use lib.Ieee.{Float}
use borrow.Author.Tests.{eq-eqb, ne_eqb}
use Rattle.basics.specs.Options.{Holds, present, value_or}
use Rattle.basics.specs.Lists.{All, is_empty}
use Rattle.basics.proofs.TestLaws.{by-test}
use Rattle.definitions.specs.Domain.{most_calls}
use Rattle.definitions.specs.Load.{Load, no_load, plus}
use Rattle.definitions.specs.Sheet.{Break, CustomerOf, Sheet, Leg, customer, drive}
use Rattle.definitions.specs.Run as Whole
use Rattle.definitions.specs.Run.{break_start, too_late, ready, start, break_at, last_of, distance_from, first_closed, Totals, home, load}
use Rattle.definitions.specs.Visits.{Visit, arrives_at, visited, visits_from, windows_from, last_label}
use Rattle.definitions.specs.Timeline.{Stop, rest_start, stops_from, rest_of, untaken, open_timeline, timeline}
use Rattle.definitions.specs.Refusals.{Within, WithinCalls}
use Rattle.definitions.proofs.LoadLaws.{none-plus}
use Rattle.theorems.proofs.Roads.{open-distance, distance-home, home_by, home-is}
use Rattle.theorems.proofs.Accepted.{present-same}
use Rattle.bounds.specs.Sized.{SmallBreak, Sized, Place}
use Rattle.bounds.proofs.Inside.{sized, few-calls, calls-inside, depot-inside, last-inside, leg-small, customer-small, break-small}
use Rattle.bounds.specs.Bounds.{Early, ready_by}
use Rattle.bounds.proofs.BoundLaws.{start-early, distance_most, last-most, readiness-most, visited-early}
use Rattle.whole.specs.Whole.{fl, limit}
use Rattle.whole.proofs.WholeLaws.{fl-lt, fl-sum}
use Rattle.whole.proofs.LargerLaws.{larger-fl}
use Rattle.models.specs.Image.{fl_break, fl_customer}
use Rattle.distance.proofs.Exact.{fl_leg}
use Rattle.evaluation.specs.Records.{Tables}
use Rattle.evaluation.specs.Image.{fl_limits, Image}
use Rattle.evaluation.specs.Tables.{record_f}
use Rattle.evaluation.proofs.ClockExact.{record-exact}
use Rattle.evaluation.proofs.RouteExact.{first-closed-exact}
use Rattle.visits.specs.declared.visit.Visit as Held
use Rattle.visits.specs.Visiting.{duration_f, start_trip, open_f, visits_f, trip_f, blank_visit}
use Rattle.visits.specs.Image.{fl_visit}
use Rattle.visits.proofs.Resting.{length_of, agrees-past}
use Rattle.visits.proofs.VisitsExact.{fl_trip, fl_rest, Onward, ready-exact, begin-exact, onward, open-exact, visits-exact, windows-exact, trip-exact}
use Rattle.visits.proofs.BuildExact.{checked-exact}
use Rattle.timeline.specs.Timing.{window_f, started_f, given_start_f, rest_with_f, given_rest_f, untaken_f, begins_f, timed_f, open_timeline_f, timeline_by_f, timeline_f}
use Rattle.timeline.specs.Image.{fl_timeline}
use Rattle.timeline.proofs.Stops.{no_visit, visits-of, rest-past, rest-by}
use Rattle.timeline.proofs.Agreeing.{agrees-stops}
use Rattle.timeline.proofs.AtTheClock.{timeline-closed, timeline-open}

length-exact : (o : Option Break) → duration_f (option_map fl_break o) ≡ fl (length_of o)
length-exact None = refl
length-exact (Some b) = refl

-- ---- the break

started-exact : (b : Break) → SmallBreak b → (k arrival : ℕ) → k < most_calls → arrival ≤ ready_by k → started_f (fl_break b) (fl arrival) ≡ option_map fl (rest_start (Some b) arrival)
started-exact b B k arrival few h =
    rw (larger-fl arrival b.earliest (omega arith) (omega arith), fl-lt b.latest (break_start b arrival) (omega arith) (omega arith))
    (by-test (too_late b arrival) (λ e. rw e) (λ e. rw e))

start_small : (b : Break) → SmallBreak b → (k arrival : ℕ) → k < most_calls → arrival ≤ ready_by k → Holds (λ (n : ℕ). n ≤ limit) (rest_start (Some b) arrival)
start_small b B k arrival few h = by-test (too_late b arrival) (λ e. rw e tt) (λ e. rw e (omega arith))

untaken-exact : (r : Option Break) → Holds SmallBreak r → (place : ℕ) (stops : List Stop) (duration : ℕ) → duration ≤ limit
    → untaken_f (option_map fl_break r) place (option_map fl (rest_of stops)) (fl duration) ≡ untaken r place stops duration
untaken-exact None B place stops duration h = refl
untaken-exact (Some b) B place stops duration h = rw (present-same fl (rest_of stops), fl-lt duration b.earliest h (omega arith)) refl

-- ---- the break place of the last label

-- past its place the label keeps what it has
last-past : (s : Sheet) (place k a : ℕ) (l : Whole.Label) (calls : List ℕ) → place < k → (last_label s place k a l calls).place ≡ l.place
unfolding last_label visited
last-past s place k a l [] h = refl
last-past s place k a l (c ∷ cs) h = last-past s place (suc k) c _ cs (omega arith) ∙ rw (ne_eqb place k apart) refl
  where
    apart : place ≡ k → ⊥
    apart e = omega arith

-- at a call of the run it is taken up, also where the break would start past latest
last-placed : (s : Sheet) (b : Break) → s.head.rest ≡ Some b → (m place k a : ℕ) (l : Whole.Label) (calls : List ℕ) → place ≡ k + m → m < length calls
    → (last_label s place k a l calls).place ≡ place
unfolding last_label visited
last-placed s b r m place k a l [] e h = absurd (not-suc-le-zero h)
last-placed s b r zero place k a l (c ∷ cs) e h = last-past s place (suc k) c _ cs (omega arith) ∙ rw (eq-eqb place k here, r) (sym here)
  where
    here : place ≡ k
    here = omega arith
last-placed s b r (suc m) place k a l (c ∷ cs) e h = last-placed s b r m place (suc k) c _ cs (omega arith) (omega arith)

-- a place that a run of the sheet may be given: one of its calls, or 0, and only 0 on a sheet without a break
pub record Given (s : Sheet) (calls : List ℕ) (place : ℕ) : Type 0 where
  pub own : place ≤ length calls
  pub needed : s.head.rest ≡ None → place ≡ 0

module _ (s : Sheet) (S : Sized s) (t : Tables) (I : Image s t) where
  -- ---- arrivals

  -- each call of the run without its break is reached in time for a float
  arrival-small : (m k j a : ℕ) (l : Whole.Label) (n : Load) (calls : List ℕ) → k + length calls ≤ most_calls → Early k l → m < length calls
      → (get_or (visits_from s 0 j a l n calls) m no_visit).arrival ≤ ready_by (k + m)
  unfolding visits_from ready
  arrival-small m k j a l n [] few E h = absurd (not-suc-le-zero h)
  arrival-small zero k j a l n (c ∷ cs) few E h = omega (arith, readiness-most s S k (omega arith) None tt j a c l E)
  arrival-small (suc m) k j a l n (c ∷ cs) few E h =
      let rest = arrival-small m (suc k) (suc j) c (visited s (break_at s 0 j) j a c l) (plus n (customer s c).demand) cs (omega arith)
      (visited-early s S k (omega arith) (break_at s 0 j) (break-small s S 0 j) j a c l E) (omega arith) in
      subst (λ (x : ℕ). (get_or (visits_from s 0 (suc j) c (visited s (break_at s 0 j) j a c l) (plus n (customer s c).demand) cs) m no_visit).arrival ≤ ready_by x) (omega arith) rest

  -- ---- the service starts

  window-exact : (c : ℕ) → Place s c → window_f t.customers c ≡ (fl_customer (customer s c)).window
  unfolding record_f
  window-exact c p = ap (λ (x : CustomerOf Float). x.window) (record-exact s S t I c p)

  begins-exact : (place : ℕ) (o : Option ℕ) (O : Holds (λ (n : ℕ). n ≤ limit) o) (k j a : ℕ) (l : Whole.Label) (n : Load) (calls : List ℕ) → Onward s place o k j a l calls
      → begins_f t.customers (fl_rest s place o false) j (map fl_visit (visits_from s place j a l n calls)) ≡ map (λ x. fl x.begin) (stops_from s place j a l n calls)
  unfolding begins_f visits_from stops_from
  begins-exact place o O k j a l n [] H = refl
  begins-exact place o O k j a l n (c ∷ cs) H =
      let few : k < most_calls = omega (arith, H.few) in
      let load = plus n (customer s c).demand in
      let rest = begins-exact place o O (suc k) (suc j) c (visited s (break_at s place j) j a c l) load cs (onward s S t I place o false O k j a l c cs H) in
      let most = readiness-most s S k few (break_at s place j) (break-small s S place j) j a c l H.early in
      rw (
        window-exact c H.calls-inside.0,
        ready-exact s S place o false O j (arrives_at s a c l),
        H.agreed.0,
        begin-exact k few (customer s c).window (customer-small s S c).window-small _ most,
        rest,
      )

  module _ (calls : List ℕ) (few : length calls ≤ most_calls) (i : All (Place s) calls) (place : ℕ) (P : Given s calls place) where
    abbrev stops : List Stop
    stops = stops_from s place 1 0 start no_load calls

    abbrev began : Option ℕ
    began = rest_of stops

    -- the arrival at the break's call
    abbrev without : List Visit
    without = visits_from s 0 1 0 start no_load calls

    -- what the break's start is, and that a float holds it
    abbrev Began : Option Break → ℕ → Type 0
    Began r p =
        (given_start_f (option_map fl_break r) p (map fl_visit without) ≡ option_map fl (rest_of (stops_from s p 1 0 start no_load calls)))
        × Holds (λ (n : ℕ). n ≤ limit) (rest_of (stops_from s p 1 0 start no_load calls))

    unplaced : rest_of (stops_from s 0 1 0 start no_load calls) ≡ None
    unplaced = rest-past s 0 1 0 start no_load calls (omega arith)

    rest_at : (r : Option Break) → s.head.rest ≡ r → (m : ℕ) → m < length calls
        → rest_of (stops_from s (suc m) 1 0 start no_load calls) ≡ rest_start r (get_or without m no_visit).arrival
    rest_at r e m h =
        rest-by s (suc m) m 1 0 start no_load calls (omega arith) (omega arith) h ∙ ap (λ (x : Option Break). rest_start x (get_or without m no_visit).arrival) e

    began-by : (r : Option Break) → s.head.rest ≡ r → (p : ℕ) → p ≤ length calls → Began r p
    unfolding given_start_f
    began-by None e zero h = rw unplaced (refl, tt)
    began-by None e (suc m) h = rw (rest_at None e m h) (refl, tt)
    began-by (Some b) e zero h = rw unplaced (refl, tt)
    began-by (Some b) e (suc m) h =
        let B : SmallBreak b = subst (Holds SmallBreak) e S.rest-small in
        let small = arrival-small m 0 1 0 start no_load calls (omega arith) start-early h in
        rw (rest_at (Some b) e m h) (
          ap (λ (v : Held.Visit). started_f (fl_break b) v.arrival_time) (get_or-map fl_visit without m no_visit)
              ∙ started-exact b B (0 + m) (get_or without m no_visit).arrival (omega arith) small,
          start_small b B (0 + m) (get_or without m no_visit).arrival (omega arith) small,
        )

    began-fits : Holds (λ (n : ℕ). n ≤ limit) began
    began-fits = (began-by s.head.rest refl place P.own).1

    -- the last label of the visits
    abbrev last : Whole.Label
    last = last_label s place 1 0 start calls

    last-early : Early (length calls) last
    last-early = last-most s S place calls few

    last-place : last.place ≡ place
    last-place = go s.head.rest refl place P.own P.needed
      where
        go : (r : Option Break) → s.head.rest ≡ r → (p : ℕ) → p ≤ length calls → (s.head.rest ≡ None → p ≡ 0) → (last_label s p 1 0 start calls).place ≡ p
        go r e zero h n = last-past s 0 1 0 start calls (omega arith)
        go None e (suc m) h n = let z = n e in absurd (never z)
          where
            never : suc m ≡ 0 → ⊥
            never z = omega arith
        go (Some b) e (suc m) h n = last-placed s b e m (suc m) 1 0 start calls (omega arith) h

    -- ---- a run without a closed leg, so long and with the way home `w`

    module _ (roads : first_closed s calls ≡ None) (d : ℕ) (far : distance_from s 0 calls ≡ Some d) (w : Leg) (back : drive s (last_of 0 calls) 0 ≡ Some w) where
      abbrev totals : Totals
      totals = home_by s calls d w.travel last

      came-home : home s calls last ≡ Some totals
      came-home = home-is s calls d w far back last

      distance-fits : d ≤ limit
      distance-fits = omega (arith, distance_most s S 0 calls d far)

      duration-fits : totals.duration ≤ limit
      duration-fits = omega (arith, last-early, (leg-small s S (last_of 0 calls) 0 w back).1)

      set_out : Onward s place began 0 1 0 start calls
      set_out =
          record { few = omega arith; from-inside = depot-inside s S; calls-inside = i; early = start-early; agreed = agrees-stops s place 1 0 start no_load calls; roads = roads }

      set-out-without : Onward s 0 None 0 1 0 start calls
      set-out-without =
          record { few = omega arith; from-inside = depot-inside s S; calls-inside = i; early = start-early; agreed = agrees-past s 0 None 1 0 start calls (omega arith); roads = roads }

      rest-exact : given_rest_f t (option_map fl_break s.head.rest) place calls ≡ fl_rest s place began false
      unfolding given_rest_f
      rest-exact =
          rw (
            length-exact s.head.rest,
            visits-exact s S t I 0 None false tt 0 1 0 (fl 0) start no_load calls set-out-without,
            (began-by s.head.rest refl place P.own).0,
          )

      -- the trip, with so far gone before the way home
      trip-home : (gone : ℕ) × (gone + w.length ≡ d) × (trip_f t (fl_rest s place began false) 1 start_trip calls ≡ fl_trip (fl gone) last (load s calls) (last_of 0 calls))
      trip-home =
          let (gone, all, trip) = trip-exact s S t I place began false began-fits 0 1 0 0 start no_load calls d far w back (omega (arith, distance-fits)) set_out in
          (gone, omega (arith, all), trip ∙ ap (λ (n : Load). fl_trip (fl gone) last n (last_of 0 calls)) (none-plus (load s calls)))

      way_home : open_f t (last_of 0 calls) 0 ≡ fl_leg w
      way_home = open-exact s S t I place began false began-fits (last_of 0 calls) 0 (last-inside s 0 calls (depot-inside s S) i) (depot-inside s S) w back

      open-exactly : open_timeline_f t s.head.capacity (fl_limits s) place calls ≡ fl_timeline (open_timeline s (record { calls = calls; place = place }))
      unfolding open_timeline_f open_timeline
      open-exactly =
          let (gone, all, trip) = trip-home in
          ap (timed_f t s.head.capacity (fl_limits s) place calls) rest-exact
          ∙ rw (
            visits-exact s S t I place began false began-fits 0 1 0 (fl 0) start no_load calls set_out,
            windows-exact s S t I place began false began-fits 0 1 0 (fl 0) start no_load calls set_out,
            begins-exact place began began-fits 0 1 0 start no_load calls set_out,
            trip,
            way_home,
            fl-sum gone w.length (omega (arith, all, distance-fits)) ∙ ap fl all,
            fl-sum last.time w.travel duration-fits,
            untaken-exact s.head.rest S.rest-small place stops totals.duration duration-fits,
            checked-exact s S (windows_from s place 1 0 start calls) (untaken s.head.rest place stops totals.duration) (load s calls) d totals.duration distance-fits duration-fits,
            came-home,
            last-place,
            visits-of s place 1 0 start no_load calls,
          )

    -- ---- the timeline

    pub exactly : timeline_f t s.head.capacity (fl_limits s) place calls ≡ fl_timeline (timeline s (record { calls = calls; place = place }))
    unfolding timeline_f
    exactly = ap (timeline_by_f t s.head.capacity (fl_limits s) place calls) (first-closed-exact s S t I calls i) ∙ go (first_closed s calls) refl
      where
        run : Whole.Run
        run = record { calls = calls; place = place }

        go : (o : Option ℕ) → first_closed s calls ≡ o → timeline_by_f t s.head.capacity (fl_limits s) place calls o ≡ fl_timeline (timeline s run)
        go (Some leg) e = ap fl_timeline (sym (timeline-closed s run leg e))
        go None e =
            let (d, far) = open-distance s 1 0 calls e in
            let (w, back) = distance-home s 0 calls d far in
            open-exactly e d far w back ∙ ap fl_timeline (sym (timeline-open s run e))

-- ---- by the limits of the Domain

-- the answer on floats is that of the definitions, each figure held in a float
pub timeline-exact : (s : Sheet) → Within s → (t : Tables) → Image s t → (calls : List ℕ) → WithinCalls s calls → (place : ℕ) → Given s calls place
    → timeline_f t s.head.capacity (fl_limits s) place calls ≡ fl_timeline (timeline s (record { calls = calls; place = place }))
timeline-exact s W t I calls C place P = exactly s (sized s W) t I calls (few-calls s calls C) (calls-inside s calls C) place P
