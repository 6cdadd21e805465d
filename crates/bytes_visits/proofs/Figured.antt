-- The figures of a timeline on a sheet within the limits are such as a float holds. Assumes nothing.
use Prim.Native.Nat.{ℕ, suc, ◌≤◌}
use native.Mathlib.Omega.{arith}
use mathlib.Core.Path.{◌≡◌, refl, sym, subst}
use mathlib.Core.Bool.{Bool, true, false, not, ◌&&◌}
use mathlib.Core.List.{List, [], ◌∷◌, ◌++◌, map}
use Rattle.std.specs.Prelude.{Option, None, Some}
use lib.ListN.{length}
use borrow.Author.Tests.{le-leb}
use Rattle.basics.specs.Options.{present, value_or}
use Rattle.basics.specs.Lists.{All, is_empty}
use Rattle.basics.proofs.TestLaws.{by-test}
use Rattle.basics.proofs.ListLaws.{all_append}
use Rattle.definitions.specs.Domain.{most_calls}
use Rattle.definitions.specs.Sheet.{Sheet}
use Rattle.definitions.specs.Load.{no_load, seated, wheeled}
use Rattle.definitions.specs.Limits.{within}
use Rattle.definitions.specs.Run.{Label, start, Run, break_at, first_closed, Totals, home, load}
use Rattle.definitions.specs.Visits.{Violation, window_shut, break_not_placeable, over_capacity, over_distance, over_duration, over_wheelchairs, closed_leg, ready_for, entered, visited, windows_from, last_label, no_totals, unless, overloads, violations_of}
use Rattle.definitions.specs.Timeline.{Timeline, stops_from, untaken, open_timeline, timeline}
use Rattle.theorems.proofs.Roads.{closed_is}
use Rattle.bounds.specs.Sized.{Place, Sized}
use Rattle.bounds.proofs.BoundLaws.{load-most}
use Rattle.whole.specs.Whole.{fl, limit}
use Rattle.visits.specs.Image.{fl_kind}
use Rattle.timeline.proofs.AtTheClock.{timeline-closed, timeline-open}
use Rattle.bytes_visits.specs.Rows.{figures_row, held_f, figures_in}

-- each of a violation's whole numbers that is not held in a float by itself
abbrev pub Small : Violation → Type 0
Small (window_shut customer readiness due) = customer ≤ limit
Small break_not_placeable = Unit {0}
Small (over_capacity load capacity) = load ≤ limit
Small (over_distance distance max) = Unit {0}
Small (over_duration duration max) = Unit {0}
Small (over_wheelchairs load capacity) = load ≤ limit
Small (closed_leg leg) = leg ≤ limit

held-is : (n : ℕ) → n ≤ limit → held_f n ≡ fl n
unfolding held_f
held-is n h = rw (le-leb n limit h) refl

pub figures-are : (v : Violation) → Small v → figures_in (fl_kind v) ≡ map fl (figures_row v)
figures-are (window_shut customer readiness due) h = rw (held-is customer h) refl
figures-are break_not_placeable h = refl
figures-are (over_capacity load capacity) h = rw (held-is load h) refl
figures-are (over_distance distance max) h = refl
figures-are (over_duration duration max) h = refl
figures-are (over_wheelchairs load capacity) h = rw (held-is load h) refl
figures-are (closed_leg leg) h = rw (held-is leg h) refl

-- ---- the violations of a timeline

unless-small : (b : Bool) (v : Violation) → Small v → All Small (unless b v)
unless-small true v h = tt
unless-small false v h = (h, tt)

module _ (s : Sheet) (S : Sized s) where
  windows-small : (place k a : ℕ) (l : Label) (calls : List ℕ) → All (Place s) calls → All Small (windows_from s place k a l calls)
  unfolding windows_from
  windows-small place k a l [] i = tt
  windows-small place k a l (c ∷ cs) i =
      let rest = windows-small place (suc k) c (visited s (break_at s place k) k a c l) cs i.1 in
      by-test (present (entered s c (ready_for s (break_at s place k) a c l))) (λ y. rw y rest) (λ n. rw n (omega (arith, i.0, S.few-places), rest))

  module _ (r : Run) (few : length r.calls ≤ most_calls) (i : All (Place s) r.calls) where
    overloads-small : All Small (overloads (load s r.calls) s.head.capacity)
    overloads-small =
        let most = load-most s S r.calls in
        let seats : Small (over_capacity (load s r.calls).seats s.head.capacity.seats) = omega (arith, most) in
        let wheelchairs : Small (over_wheelchairs (load s r.calls).wheelchairs s.head.capacity.wheelchairs) = omega (arith, most) in
        let over = over_capacity (load s r.calls).seats s.head.capacity.seats in
        let beyond = over_wheelchairs (load s r.calls).wheelchairs s.head.capacity.wheelchairs in
        let full = seated (load s r.calls) s.head.capacity in
        let wide = wheeled (load s r.calls) s.head.capacity in
        all_append Small (unless full over) (unless wide beyond) (unless-small full over seats) (unless-small wide beyond wheelchairs)

    -- behind the windows that are shut
    behind-small : (windows : List Violation) (told : Bool) (t : Totals) → All Small windows → All Small (violations_of s r.calls windows told t)
    behind-small windows told t h =
        let far = over_distance t.distance (value_or 0 s.head.max_distance) in
        let long = over_duration t.duration (value_or 0 s.head.max_duration) in
        let near = within s.head.max_distance t.distance in
        let short = within s.head.max_duration t.duration in
        let loads = overloads (load s r.calls) s.head.capacity in
        let rest = unless (not told) break_not_placeable in
        let one = all_append Small windows rest h (unless-small (not told) break_not_placeable tt) in
        let two = all_append Small (windows ++ rest) loads one overloads-small in
        let three = all_append Small (windows ++ rest ++ loads) (unless near far) two (unless-small near far tt) in
        all_append Small (windows ++ rest ++ loads ++ unless near far) (unless short long) three (unless-small short long tt)

    open-small : All Small (open_timeline s r).violations
    unfolding open_timeline
    open-small =
        let windows = windows_from s r.place 1 0 start r.calls in
        let stops = stops_from s r.place 1 0 start no_load r.calls in
        let totals = value_or no_totals (home s r.calls (last_label s r.place 1 0 start r.calls)) in
        behind-small windows (untaken s.head.rest r.place stops totals.duration && is_empty windows) totals (windows-small r.place 1 0 start r.calls i)

    pub all_small : All Small (timeline s r).violations
    all_small = go (first_closed s r.calls) refl
      where
        go : (o : Option ℕ) → first_closed s r.calls ≡ o → All Small (timeline s r).violations
        go None e = subst (λ (t : Timeline). All Small t.violations) (sym (timeline-open s r e)) open-small
        go (Some leg) e =
            let x = closed_is s r.calls leg e in
            subst (λ (t : Timeline). All Small t.violations) (sym (timeline-closed s r leg e)) (omega (arith, x.number, x.inside), tt)
