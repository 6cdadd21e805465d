-- On a sheet within the limits, held in floats, the lines of a run tell the timeline of the definitions. Assumes nothing.
use Prim.Native.Nat.{ℕ, suc, ◌+◌, ◌≤◌, ◌<◌}
use native.Mathlib.Omega.{arith}
use mathlib.Core.Path.{◌≡◌, refl, sym, ap, ◌∙◌}
use mathlib.Core.Bool.{Bool, true, false, not, ◌&&◌}
use mathlib.Core.List.{List, [], ◌∷◌, ◌++◌, map}
use Rattle.std.specs.Prelude.{Option, None, Some, option_map}
use lib.Dec.{eqb}
use lib.Ieee.{Float}
use lib.ListN.{length}
use borrow.Author.Tests.{eqb-true, ne_eqb}
use Rattle.basics.specs.Options.{Holds, value_or, present}
use Rattle.basics.specs.Lists.{All, is_empty}
use Rattle.basics.proofs.TestLaws.{by-test}
use Rattle.basics.proofs.ListLaws.{all_append}
use Rattle.definitions.specs.Domain.{most_calls}
use Rattle.definitions.specs.Load.{Load, no_load, plus, seated, wheeled}
use Rattle.definitions.specs.Sheet.{Window, Break, Sheet, customer}
use Rattle.definitions.specs.Window.{begins, due_of}
use Rattle.definitions.specs.Limits.{within}
use Rattle.definitions.specs.Run.{break_start, too_late, ready, Label, start, Run, break_at, first_closed, Totals, home, load}
use Rattle.definitions.specs.Visits.{Violation, window_shut, break_not_placeable, over_capacity, over_distance, over_duration, over_wheelchairs, closed_leg, arrives_at, ready_for, entered, visited, windows_from, last_label, unless, no_totals, violations_of}
use Rattle.definitions.specs.Timeline.{rest_start, stops_from, rest_of, Timeline, untaken, closed_timeline, open_timeline, timeline}
use Rattle.bounds.specs.Sized.{SmallWindow, SmallBreak, SmallCustomer, Sized, Place}
use Rattle.bounds.specs.Bounds.{Early, ready_by, TotalsFit}
use Rattle.bounds.proofs.Inside.{customer-small, break-small}
use Rattle.bounds.proofs.BoundLaws.{start-early, begins-most, readiness-most, visited-early, last-most, home-most, totals-fit, or-zero}
use Rattle.whole.specs.Whole.{fl, limit}
use Rattle.whole.proofs.WholeLaws.{fl-sum}
use Rattle.listing_lines.proofs.WholePart.{whole-part-fl}
use Rattle.models.specs.Image.{fl_window, fl_break}
use Rattle.clock.specs.Image.{fl_totals}
use Rattle.evaluation.specs.Records.{Tables}
use Rattle.evaluation.specs.Image.{Image}
use Rattle.evaluation.specs.Tables.{record_f}
use Rattle.evaluation.proofs.ClockExact.{record-exact}
use Rattle.visits.specs.Visiting.{duration_f}
use Rattle.visits.specs.Image.{fl_visit, fl_violation}
use Rattle.timeline.specs.Image.{fl_timeline}
use Rattle.timeline.proofs.Stops.{rest-here, rest-later}
use Rattle.timeline.proofs.AtTheClock.{timeline-closed, timeline-open}
use Rattle.texts.specs.TimesText.{Told, pause_of, told_of, run_lines, timeline_text}
use Rattle.times_lines.specs.Told.{start_at, pause_in, window_in, stops_in, violation_in, totals_in, run_text_f}

-- ---- a call

window-exact : (w : Option Window) → Holds SmallWindow w → window_in (option_map fl_window w) ≡ w
window-exact None W = refl
window-exact (Some w) W = rw (whole-part-fl w.ready (omega arith), whole-part-fl w.due (omega arith)) refl

no-pause : (r : Option Break) → pause_of r None ≡ None
no-pause None = refl
no-pause (Some b) = refl

pause-exact : (r : Option Break) → Holds SmallBreak r → (k arrival : ℕ) → k < most_calls → arrival ≤ ready_by k
    → pause_in (duration_f (option_map fl_break r)) (option_map fl (rest_start r arrival)) ≡ pause_of r (rest_start r arrival)
pause-exact None B k arrival few h = refl
pause-exact (Some b) B k arrival few h =
    by-test (too_late b arrival) (λ y. rw y refl)
    (λ f. rw (f, whole-part-fl (break_start b arrival) (omega arith), fl-sum (break_start b arrival) b.duration (omega arith), whole-part-fl (break_start b arrival + b.duration) (omega arith)) refl)

-- ---- violations

-- what is asked of the figures that a float holds
abbrev Fits : Violation → Type 0
Fits (window_shut customer readiness due) = (readiness ≤ limit) × (due ≤ limit)
Fits break_not_placeable = Unit {0}
Fits (over_capacity load capacity) = Unit {0}
Fits (over_distance distance most) = (distance ≤ limit) × (most ≤ limit)
Fits (over_duration duration most) = (duration ≤ limit) × (most ≤ limit)
Fits (over_wheelchairs load capacity) = Unit {0}
Fits (closed_leg leg) = Unit {0}

violation-exact : (v : Violation) → Fits v → violation_in (fl_violation v) ≡ v
violation-exact (window_shut customer readiness due) F = rw (whole-part-fl readiness F.0, whole-part-fl due F.1) refl
violation-exact break_not_placeable F = refl
violation-exact (over_capacity load capacity) F = refl
violation-exact (over_distance distance most) F = rw (whole-part-fl distance F.0, whole-part-fl most F.1) refl
violation-exact (over_duration duration most) F = rw (whole-part-fl duration F.0, whole-part-fl most F.1) refl
violation-exact (over_wheelchairs load capacity) F = refl
violation-exact (closed_leg leg) F = refl

violations-exact : (vs : List Violation) → All Fits vs → map violation_in (map fl_violation vs) ≡ vs
violations-exact [] F = refl
violations-exact (v ∷ vs) F =
    ap (λ (x : Violation). x ∷ map violation_in (map fl_violation vs)) (violation-exact v F.0) ∙ ap (λ (l : List Violation). v ∷ l) (violations-exact vs F.1)

unless-fits : (b : Bool) (v : Violation) → Fits v → All Fits (unless b v)
unless-fits true v F = tt
unless-fits false v F = (F, tt)

totals-exact : (t : Totals) → TotalsFit t → totals_in (fl_totals t) ≡ t
totals-exact t F =
    rw (whole-part-fl t.distance F.distance-fits, whole-part-fl t.duration F.duration-fits, whole-part-fl t.lateness F.lateness-fits, whole-part-fl t.pay F.pay-fits) refl

due-fits : (w : Option Window) → Holds SmallWindow w → due_of w ≤ limit
due-fits None W = omega arith
due-fits (Some w) W = omega arith

module _ (s : Sheet) (S : Sized s) where
  windows-fit : (place k j a : ℕ) (l : Label) (calls : List ℕ) → k + length calls ≤ most_calls → Early k l → All Fits (windows_from s place j a l calls)
  unfolding windows_from
  windows-fit place k j a l [] few E = tt
  windows-fit place k j a l (c ∷ cs) few E =
      let here = break_at s place j in
      let H = break-small s S place j in
      let readiness = ready_for s here a c l in
      let most = readiness-most s S k (omega arith) here H j a c l E in
      let rest = windows-fit place (suc k) (suc j) c (visited s here j a c l) cs (omega arith) (visited-early s S k (omega arith) here H j a c l E) in
      by-test (present (entered s c readiness)) (λ y. rw y rest) (λ f. rw f ((omega (arith, most), due-fits (customer s c).window (customer-small s S c).window-small), rest))

  all_fit : (calls : List ℕ) (windows : List Violation) (told : Bool) (t : Totals) → All Fits windows → TotalsFit t → All Fits (violations_of s calls windows told t)
  all_fit calls windows told t W T =
      let n = load s calls in
      let most = s.head.capacity in
      let far = over_distance t.distance (value_or 0 s.head.max_distance) in
      let long = over_duration t.duration (value_or 0 s.head.max_duration) in
      let unplaced = unless (not told) break_not_placeable in
      let heavy = unless (seated n most) (over_capacity n.seats most.seats) in
      let wheeling = unless (wheeled n most) (over_wheelchairs n.wheelchairs most.wheelchairs) in
      let beyond = unless (within s.head.max_distance t.distance) far in
      let over = unless (within s.head.max_duration t.duration) long in
      all_append Fits (windows ++ unplaced ++ (heavy ++ wheeling) ++ beyond) over
      (all_append Fits (windows ++ unplaced ++ (heavy ++ wheeling)) beyond
      (all_append Fits (windows ++ unplaced) (heavy ++ wheeling)
      (all_append Fits windows unplaced W (unless-fits (not told) break_not_placeable tt))
      (all_append Fits heavy wheeling (unless-fits (seated n most) (over_capacity n.seats most.seats) tt)
      (unless-fits (wheeled n most) (over_wheelchairs n.wheelchairs most.wheelchairs) tt)))
      (unless-fits (within s.head.max_distance t.distance) far (T.distance-fits, omega (arith, or-zero s.head.max_distance S.far-small))))
      (unless-fits (within s.head.max_duration t.duration) long (T.duration-fits, omega (arith, or-zero s.head.max_duration S.long-small)))

  -- ---- the calls of a run

  module _ (t : Tables) (I : Image s t) (place : ℕ) where
    abbrev length-of : Float
    length-of = duration_f (option_map fl_break s.head.rest)

    -- the break of these stops, by the break of the run
    pause-at : (o : Option ℕ) (k j a : ℕ) (l : Label) (n : Load) (c : ℕ) (cs : List ℕ) → k < most_calls → Early k l → (j ≤ place → o ≡ rest_of (stops_from s place j a l n (c ∷ cs)))
        → pause_in length-of (start_at place (option_map fl o) j) ≡ pause_of s.head.rest (rest_start (break_at s place j) (arrives_at s a c l))
    unfolding start_at ready
    pause-at o k j a l n c cs few E h =
        by-test (eqb place j)
        (λ y. let here = eqb-true place j y in
        let e = h (omega arith) ∙ rest-here s place j a l n c cs here in
        rw (y, e) (pause-exact s.head.rest S.rest-small k (arrives_at s a c l) few (omega (arith, readiness-most s S k few None tt j a c l E))))
        (λ f. rw f (sym (no-pause s.head.rest)))

    stops-exact : (o : Option ℕ) (k j a : ℕ) (l : Label) (n : Load) (calls : List ℕ) → k + length calls ≤ most_calls → Early k l → All (Place s) calls
        → (j ≤ place → o ≡ rest_of (stops_from s place j a l n calls))
        → stops_in t.customers length-of place (option_map fl o) j (map fl_visit (map (λ x. x.visit) (stops_from s place j a l n calls))) (map (λ x. fl x.begin) (stops_from s place j a l n calls))
        ≡ map (told_of s) (stops_from s place j a l n calls)
    unfolding stops_in stops_from record_f ready
    stops-exact o k j a l n [] few E i h = refl
    stops-exact o k j a l n (c ∷ cs) few E i h =
        let most = readiness-most s S k fewer here (break-small s S place j) j a c l E in
        rw (
          pause-at o k j a l n c cs fewer E h,
          record-exact s S t I c i.0,
          window-exact (customer s c).window C.window-small,
          whole-part-fl (arrives_at s a c l) (omega (arith, readiness-most s S k fewer None tt j a c l E)),
          whole-part-fl (begins (customer s c).window (ready_for s here a c l)) (omega (arith, begins-most (customer s c).window C.window-small k _ most)),
          whole-part-fl m.time (omega (arith, M)),
          stops-exact o (suc k) (suc j) c m load_after cs (omega arith) M i.1 later,
        )
      where
        fewer : k < most_calls
        fewer = omega arith

        here : Option Break
        here = break_at s place j

        m : Label
        m = visited s here j a c l

        load_after : Load
        load_after = plus n (customer s c).demand

        C : SmallCustomer (customer s c)
        C = customer-small s S c

        M : Early (suc k) m
        M = visited-early s S k fewer here (break-small s S place j) j a c l E

        later : suc j ≤ place → o ≡ rest_of (stops_from s place (suc j) c m load_after cs)
        later q =
            let away : here ≡ None = rw (ne_eqb place j apart) refl in
            h (omega arith) ∙ rest-later s place j a l n c cs apart
            ∙ ap (λ (b : Option Break). rest_of (stops_from s place (suc j) c (visited s b j a c l) load_after cs)) (sym away)
          where
            apart : place ≡ j → ⊥
            apart e = omega arith

    -- ---- the lines of a run

    module _ (n : ℕ) (calls : List ℕ) (few : length calls ≤ most_calls) (i : All (Place s) calls) where
      abbrev run : Run
      run = record { calls = calls; place = place }

      -- what the lines tell of a timeline, held in floats
      abbrev lines_of : Timeline → List ℕ
      lines_of x = run_text_f t.customers (option_map fl_break s.head.rest) place n (fl_timeline x).route (fl_timeline x).begins

      totals-small : (o : Option Totals) → home s calls (last_label s place 1 0 start calls) ≡ o → TotalsFit (value_or no_totals o)
      totals-small None e = omega arith
      totals-small (Some x) e = totals-fit (length calls) few x (home-most s S calls (last_label s place 1 0 start calls) (last-most s S place calls few) x e)

      open_told : lines_of (open_timeline s run) ≡ timeline_text s n (open_timeline s run)
      unfolding run_text_f timeline_text open_timeline
      open_told =
          let stops = stops_from s place 1 0 start no_load calls in
          let windows = windows_from s place 1 0 start calls in
          let totals = value_or no_totals (home s calls (last_label s place 1 0 start calls)) in
          let fit = totals-small (home s calls (last_label s place 1 0 start calls)) refl in
          let told = untaken s.head.rest place stops totals.duration && is_empty windows in
          let found = violations_of s calls windows told totals in
          ap (λ (x : List Told). run_lines n x (totals_in (fl_totals totals)) (map violation_in (map fl_violation found)))
          (stops-exact (rest_of stops) 0 1 0 start no_load calls (omega arith) start-early i (λ q. refl))
          ∙ ap (λ (x : Totals). run_lines n (map (told_of s) stops) x (map violation_in (map fl_violation found))) (totals-exact totals fit)
          ∙ ap (λ (x : List Violation). run_lines n (map (told_of s) stops) totals x)
          (violations-exact found (all_fit calls windows told totals (windows-fit place 0 1 0 start calls (omega arith) start-early) fit))

      closed-told : (leg : ℕ) → lines_of (closed_timeline leg) ≡ timeline_text s n (closed_timeline leg)
      unfolding run_text_f timeline_text run_lines stops_in
      closed-told leg = refl

      pub told-exact : lines_of (timeline s run) ≡ timeline_text s n (timeline s run)
      told-exact = go (first_closed s calls) refl
        where
          go : (o : Option ℕ) → first_closed s calls ≡ o → lines_of (timeline s run) ≡ timeline_text s n (timeline s run)
          go (Some leg) e = rw (timeline-closed s run leg e) (closed-told leg)
          go None e = rw (timeline-open s run e) open_told
