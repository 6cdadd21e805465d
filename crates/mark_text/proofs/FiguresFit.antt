-- Each figure of a mark on an accepted sheet is one that a float holds exactly, and a difference in cost is that of the two costs. Assumes nothing.
use Prim.Native.Nat.{ℕ, suc, ◌+◌, ◌≤◌, ◌<◌}
use native.Mathlib.Omega.{arith}
use mathlib.Core.Path.{◌≡◌, refl}
use mathlib.Core.Bool.{Bool, true, false, not}
use mathlib.Core.List.{List, [], ◌∷◌}
use Rattle.std.specs.Prelude.{Option, None, Some, option_map}
use lib.ListN.{length}
use lib.Dec.{ltb}
use borrow.Author.Tests.{ltb-true}
use Rattle.basics.proofs.TestLaws.{by-test}
use Rattle.basics.specs.Options.{◌>>=◌, value_or, or_else, given, Holds}
use Rattle.basics.proofs.OptionLaws.{bound}
use Rattle.basics.specs.Lists.{All}
use Rattle.definitions.specs.Domain.{most_calls}
use Rattle.definitions.specs.Load.{seated}
use Rattle.definitions.specs.Sheet.{Window, Break, Sheet, Leg, customer, drive}
use Rattle.definitions.specs.Window.{due_of}
use Rattle.definitions.specs.Limits.{within}
use Rattle.definitions.specs.Run.{ready, Label, start, serve_at, serve, Run, break_at, first_closed, Totals, ride, load, fits, placed}
use Rattle.definitions.specs.Cutting.{joined, cutting_cost}
use Rattle.definitions.specs.Drop.{Result}
use Rattle.definitions.specs.Marker.{Verdict, other_calls, overload, break_too_late, window_missed, break_missing, too_far, too_long, best, dearer, cheaper, wheelchair_overload, road_closed, overload_of, break_or, differ, arrival_fault, call_fault, walk_fault, total_fault, run_fault, first_fault, against, mark_against}
use Rattle.theorems.proofs.Roads.{by-leg}
use Rattle.bounds.specs.Sized.{SmallWindow, SmallBreak, Sized}
use Rattle.bounds.specs.Bounds.{Early, arrive_by, SmallTotals}
use Rattle.bounds.proofs.Inside.{leg-small, customer-small, break-small}
use Rattle.bounds.proofs.BoundLaws.{start-early, ready-most, serve-early, or-zero, ride-most, totals-fit}
use Rattle.whole.specs.Whole.{limit}

-- what is asked of the figures that a float holds, beside a planner's cost and the runs' own
abbrev pub Fit : (planner cost : ℕ) → Verdict → Type 0
Fit planner cost (other_calls position) = Unit {0}
Fit planner cost (overload run load capacity) = Unit {0}
Fit planner cost (break_too_late run place customer start latest) = (start ≤ limit) × (latest ≤ limit)
Fit planner cost (window_missed run place customer readiness due) = (readiness ≤ limit) × (due ≤ limit)
Fit planner cost (break_missing run duration earliest) = (duration ≤ limit) × (earliest ≤ limit)
Fit planner cost (too_far run distance max) = (distance ≤ limit) × (max ≤ limit)
Fit planner cost (too_long run duration max) = (duration ≤ limit) × (max ≤ limit)
Fit planner cost best = Unit {0}
Fit planner cost (dearer by) = planner + by ≡ cost
Fit planner cost (cheaper by) = cost + by ≡ planner
Fit planner cost (wheelchair_overload run load capacity) = Unit {0}
Fit planner cost (road_closed run leg) = Unit {0}

-- ---- single numbers

due-fits : (w : Option Window) → Holds SmallWindow w → due_of w ≤ limit
due-fits None W = omega arith
due-fits (Some w) W = omega arith

earliest-fits : (o : Option Break) → Holds SmallBreak o → ((break_or o).earliest ≤ limit) × ((break_or o).latest ≤ limit)
earliest-fits None B = (omega arith, omega arith)
earliest-fits (Some b) B = (omega arith, omega arith)

module _ (planner cost : ℕ) where
  abbrev F : Verdict → Type 0
  F v = Fit planner cost v

  -- ---- where there may be a verdict

  or-fits : (a b : Option Verdict) → Holds F a → Holds F b → Holds F (or_else a b)
  or-fits None b p q = q
  or-fits (Some v) b p q = p

  given-fits : (t : Bool) (v : Verdict) → F v → Holds F (given t v)
  given-fits true v p = p
  given-fits false v p = tt

  value-fits : (v : Verdict) (o : Option Verdict) → F v → Holds F o → F (value_or v o)
  value-fits v None p q = p
  value-fits v (Some w) p q = q

  -- ---- the faults

  module _ (s : Sheet) (S : Sized s) (n : ℕ) where
    -- at a call after j others
    arrival-fits : (j : ℕ) → j < most_calls → (here : Option Break) → Holds SmallBreak here → (k c arrival : ℕ) → arrival ≤ arrive_by j → F (arrival_fault s n here k c arrival)
    arrival-fits j few here H k c arrival h = go (ready here arrival) refl
      where
        go : (o : Option ℕ) → ready here arrival ≡ o → F (arrival_fault s n here k c arrival)
        go None e = let B = earliest-fits here H in rw (e, arrival_fault) (omega (arith, h, B.0), B.1)
        go (Some r) e = rw (e, arrival_fault) (omega (arith, ready-most here H j arrival h r e), due-fits (customer s c).window (customer-small s S c).window-small)

    call_fits : (j : ℕ) → j < most_calls → (here : Option Break) → Holds SmallBreak here → (k a c : ℕ) (l : Label) → Early j l → F (call_fault s n here k a c l)
    call_fits j few here H k a c l E =
        by-leg s a c (λ e. rw (e, call_fault) tt)
        (λ g e. rw (e, call_fault) (arrival-fits j few here H k c (l.time + g.travel) (omega (arith, (leg-small s S a c g e).1))))

    walk-fits : (place j k a : ℕ) (l : Label) (calls : List ℕ) → j + length calls ≤ most_calls → Early j l → Holds F (walk_fault s n place k a l calls)
    unfolding walk_fault
    walk-fits place j k a l [] h E = tt
    walk-fits place j k a l (c ∷ cs) h E =
        go (serve s (break_at s place k) k a c l) refl (λ m M. walk-fits place (suc j) (suc k) c m cs (omega arith) M)
      where
        H : Holds SmallBreak (break_at s place k)
        H = break-small s S place k

        few : j < most_calls
        few = omega arith

        go : (o : Option Label) → serve s (break_at s place k) k a c l ≡ o → ((m : Label) → Early (suc j) m → Holds F (walk_fault s n place (suc k) c m cs))
            → Holds F (walk_fault s n place k a l (c ∷ cs))
        go None e rest = rw (e, walk_fault) (call_fits j few (break_at s place k) H k a c l E)
        go (Some m) e rest =
            let (g, way, q) = bound (drive s a c) (λ (leg : Leg). serve_at (customer s c) (break_at s place k) k leg.travel l) m e in
            rw (e, walk_fault) (rest m (serve-early j few (customer s c) (customer-small s S c) (break_at s place k) H k g.travel (leg-small s S a c g way).1 l E m q))

    total-fits : (r : Run) (t : Totals) → length r.calls ≤ most_calls → SmallTotals (length r.calls) t → Holds F (total_fault s n r t)
    total-fits r t few T =
        let missing = not (placed s.head.rest r.place (length r.calls) t.duration) in
        let unbroken = break_missing n t.duration (break_or s.head.rest).earliest in
        let beyond = not (within s.head.max_distance t.distance) in
        let far = too_far n t.distance (value_or 0 s.head.max_distance) in
        let over = not (within s.head.max_duration t.duration) in
        let long = too_long n t.duration (value_or 0 s.head.max_duration) in
        let x = totals-fit (length r.calls) few t T in
        let most = or-zero s.head.max_distance S.far-small in
        let longest = or-zero s.head.max_duration S.long-small in
        or-fits (given missing unbroken) (or_else (given beyond far) (given over long))
        (given-fits missing unbroken (x.duration-fits, (earliest-fits s.head.rest S.rest-small).0))
        (or-fits (given beyond far) (given over long) (given-fits beyond far (x.distance-fits, omega (arith, most))) (given-fits over long (x.duration-fits, omega (arith, longest))))

    load_fits : (calls : List ℕ) → F (overload_of n (load s calls) s.head.capacity)
    load_fits calls = by-test (seated (load s calls) s.head.capacity) (λ t. rw t tt) (λ f. rw f tt)

    closed-fits : (o : Option ℕ) → Holds F (option_map (road_closed n) o)
    closed-fits None = tt
    closed-fits (Some leg) = tt

    run_fits : (r : Run) → length r.calls ≤ most_calls → Holds F (run_fault s n r)
    unfolding run_fault
    run_fits r few =
        let unfit = not (fits s r.calls) in
        let heavy = overload_of n (load s r.calls) s.head.capacity in
        let walked = walk_fault s n r.place 1 0 start r.calls in
        let home = ride s r >>= total_fault s n r in
        or-fits (option_map (road_closed n) (first_closed s r.calls)) (or_else (given unfit heavy) (or_else walked home)) (closed-fits (first_closed s r.calls))
        (or-fits (given unfit heavy) (or_else walked home) (given-fits unfit heavy (load_fits r.calls))
        (or-fits walked home (walk-fits r.place 0 1 0 start r.calls (omega arith) start-early) (go (ride s r) refl)))
      where
        go : (o : Option Totals) → ride s r ≡ o → Holds F (o >>= total_fault s n r)
        go None e = tt
        go (Some t) e = total-fits r t few (ride-most s S r few t e)

  first_fits : (s : Sheet) → Sized s → (n : ℕ) (rs : List Run) → All (λ (r : Run). length r.calls ≤ most_calls) rs → Holds F (first_fault s n rs)
  first_fits s S n [] i = tt
  first_fits s S n (r ∷ rs) i = or-fits (run_fault s n r) (first_fault s (suc n) rs) (run_fits s S n r i.0) (first_fits s S (suc n) rs i.1)

  -- ---- the mark

  against-fits : F (against planner cost)
  against-fits =
      by-test (ltb planner cost) (λ t. let h = ltb-true planner cost t in rw t (omega arith))
      (λ f. by-test (ltb cost planner) (λ t. let h = ltb-true cost planner t in rw (f, t) (omega arith)) (λ g. rw (f, g) tt))

-- of runs none of which is too long
pub mark-fits : (s : Sheet) → Sized s → (plan : Result) (runs : List Run) → All (λ (r : Run). length r.calls ≤ most_calls) runs → Fit plan.cost (cutting_cost s runs) (mark_against s plan runs)
unfolding mark_against
mark-fits s S plan runs i = go (differ 1 (joined runs) plan.served) refl
  where
    go : (o : Option ℕ) → differ 1 (joined runs) plan.served ≡ o → Fit plan.cost (cutting_cost s runs) (mark_against s plan runs)
    go (Some p) e = rw (e, mark_against) tt
    go None e =
        let cost = cutting_cost s runs in
        rw (e, mark_against)
        (value-fits plan.cost cost (against plan.cost cost) (first_fault s 1 runs) (against-fits plan.cost cost) (first_fits plan.cost cost s S 1 runs i))
