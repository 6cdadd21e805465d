-- What the marker says of a cutting that it accepts has no number but such as a float holds exactly. Assumes nothing.
use Prim.Native.Nat.{ℕ, suc, ◌+◌, ◌-◌, ◌≤◌}
use native.Mathlib.Omega.{arith}
use native.Mathlib.Nat.{zero-add}
use mathlib.Core.Path.{◌≡◌, refl, ap, subst, ◌∙◌}
use mathlib.Core.Bool.{Bool, true, false, not}
use mathlib.Core.List.{List, [], ◌∷◌}
use Rattle.std.specs.Prelude.{Option, None, Some, option_map}
use lib.ListN.{length, drop}
use lib.Dec.{ltb, eqb}
use borrow.Author.Tests.{ltb-false}
use Rattle.basics.proofs.TestLaws.{by-test}
use Rattle.basics.specs.Options.{◌>>=◌, value_or, or_else, given, Holds}
use Rattle.basics.proofs.OptionLaws.{same, clash}
use Rattle.basics.specs.Lists.{All}
use Rattle.definitions.specs.Domain.{most_calls}
use Rattle.definitions.specs.Load.{seated}
use Rattle.definitions.specs.Sheet.{Break, Sheet}
use Rattle.definitions.specs.Limits.{within}
use Rattle.definitions.specs.Run.{ready, Label, start, serve, Run, break_at, first_closed, Totals, ride, load, fits, placed}
use Rattle.definitions.specs.RunList.{runs_from, runs_of, calls_of}
use Rattle.definitions.specs.Cutting.{joined, cutting_cost}
use Rattle.definitions.specs.Placement.{Placement}
use Rattle.definitions.specs.Drop.{Result, split_by}
use Rattle.definitions.specs.Lent.{Lent, whole_sheet, marking}
use Rattle.definitions.specs.Refusals.{refusal_of}
use Rattle.definitions.specs.Answers.{gives, unless_refused, answer, mark_by_of}
use Rattle.definitions.specs.Marker.{Verdict, overload_of, break_missing, too_far, too_long, road_closed, with_places, break_or, differ, arrival_fault, call_fault, walk_fault, total_fault, run_fault, first_fault, against, mark_against, mark_by}
use Rattle.theorems.proofs.Roads.{by-leg, closed_is}
use Rattle.theorems.proofs.RunListLaws.{calls_back}
use Rattle.theorems.proofs.Accepted.{Accepted, accepted-within}
use Rattle.bounds.specs.Sized.{Place, Sized}
use Rattle.bounds.proofs.Inside.{sized, few-calls, calls-inside}
use Rattle.bounds.proofs.BoundLaws.{load-most}
use Rattle.whole.specs.Whole.{limit}
use Rattle.marker.specs.Image.{fl_verdict}
use Rattle.theorems.proofs.GivenRuns.{rises, with-calls, with_all}
use Rattle.marker.proofs.GivenRuns.{Inside, runs-inside}
use Rattle.bytes_shared.specs.Lent.{lent_with}
use Rattle.bytes_mark.specs.Mark.{GivenRuns, marked_on}
use Rattle.bytes_mark.specs.Values.{Small}

-- of a verdict of whole numbers
abbrev pub Fits : Verdict → Type 0
Fits v = Small (fl_verdict v)

-- ---- where there may be a verdict

or-small : (a b : Option Verdict) → Holds Fits a → Holds Fits b → Holds Fits (or_else a b)
or-small None b p q = q
or-small (Some v) b p q = p

given-small : (t : Bool) (v : Verdict) → Fits v → Holds Fits (given t v)
given-small true v p = p
given-small false v p = tt

value-small : (v : Verdict) (o : Option Verdict) → Fits v → Holds Fits o → Fits (value_or v o)
value-small v None p q = p
value-small v (Some w) p q = q

-- ---- the faults

differ-small : (k : ℕ) (xs ys : List ℕ) (p : ℕ) → differ k xs ys ≡ Some p → p ≤ k + length xs
differ-small k [] [] p h = clash h
differ-small k [] (y ∷ ys) p h = omega (arith, same h)
differ-small k (x ∷ xs) [] p h = omega (arith, same h)
differ-small k (x ∷ xs) (y ∷ ys) p h =
    by-test (eqb x y)
    (λ t. omega (arith, differ-small (suc k) xs ys p (rw t at h)))
    (λ f. let e : Some k ≡ Some p = (rw f at h) in omega (arith, same e))

module _ (s : Sheet) (S : Sized s) (n : ℕ) (few : n ≤ limit) where
  arrival-small : (here : Option Break) (k c arrival : ℕ) → k ≤ limit → c ≤ limit → Fits (arrival_fault s n here k c arrival)
  arrival-small here k c arrival p q = go (ready here arrival) refl
    where
      go : (o : Option ℕ) → ready here arrival ≡ o → Fits (arrival_fault s n here k c arrival)
      go None e = rw (e, arrival_fault) (few, p, q)
      go (Some r) e = rw (e, arrival_fault) (few, p, q)

  call-small : (here : Option Break) (k a c : ℕ) (l : Label) → k ≤ limit → c ≤ limit → Fits (call_fault s n here k a c l)
  call-small here k a c l p q =
      by-leg s a c (λ e. rw (e, call_fault) (few, p)) (λ g e. rw (e, call_fault) (arrival-small here k c (l.time + g.travel) p q))

  -- a leg has a number up to one more than the run has calls
  closed-small : (calls : List ℕ) → length calls ≤ most_calls → Holds Fits (option_map (road_closed n) (first_closed s calls))
  closed-small calls h = go (first_closed s calls) refl
    where
      go : (o : Option ℕ) → first_closed s calls ≡ o → Holds Fits (option_map (road_closed n) o)
      go None e = tt
      go (Some leg) e = let x = closed_is s calls leg e in (few, omega (arith, x.number, x.inside))

  walk-small : (place k a : ℕ) (l : Label) (calls : List ℕ) → k + length calls ≤ limit → All (Place s) calls → Holds Fits (walk_fault s n place k a l calls)
  unfolding walk_fault
  walk-small place k a l [] p i = tt
  walk-small place k a l (c ∷ cs) p i = go (serve s (break_at s place k) k a c l) refl (λ m. walk-small place (suc k) c m cs (omega arith) i.1)
    where
      go : (o : Option Label) → serve s (break_at s place k) k a c l ≡ o → ((m : Label) → Holds Fits (walk_fault s n place (suc k) c m cs)) → Holds Fits (walk_fault s n place k a l (c ∷ cs))
      go None e on = rw (e, walk_fault) (call-small (break_at s place k) k a c l (omega arith) (omega (arith, i.0, S.few-places)))
      go (Some m) e on = rw (e, walk_fault) (on m)

  total-small : (r : Run) (t : Totals) → Holds Fits (total_fault s n r t)
  total-small r t =
      let missing = not (placed s.head.rest r.place (length r.calls) t.duration) in
      let unbroken = break_missing n t.duration (break_or s.head.rest).earliest in
      let beyond = not (within s.head.max_distance t.distance) in
      let far = too_far n t.distance (value_or 0 s.head.max_distance) in
      let over = not (within s.head.max_duration t.duration) in
      let long = too_long n t.duration (value_or 0 s.head.max_duration) in
      or-small (given missing unbroken) (or_else (given beyond far) (given over long)) (given-small missing unbroken few)
      (or-small (given beyond far) (given over long) (given-small beyond far few) (given-small over long few))

  load-small : (calls : List ℕ) → Inside s calls → Fits (overload_of n (load s calls) s.head.capacity)
  load-small calls i =
      let most = load-most s S calls in
      by-test (seated (load s calls) s.head.capacity) (λ t. rw t (few, omega (arith, most.wheelchairs, i.0)))
      (λ f. rw f (few, omega (arith, most.seats, i.0)))

  run_small : (r : Run) → Inside s r.calls → Holds Fits (run_fault s n r)
  unfolding run_fault
  run_small r i =
      let unfit = not (fits s r.calls) in
      let heavy = overload_of n (load s r.calls) s.head.capacity in
      let walked = walk_fault s n r.place 1 0 start r.calls in
      let home = ride s r >>= total_fault s n r in
      or-small (option_map (road_closed n) (first_closed s r.calls)) (or_else (given unfit heavy) (or_else walked home)) (closed-small r.calls i.0)
      (or-small (given unfit heavy) (or_else walked home) (given-small unfit heavy (load-small r.calls i))
      (or-small walked home (walk-small r.place 1 0 start r.calls (omega (arith, i.0)) i.1) (go (ride s r))))
    where
      go : (o : Option Totals) → Holds Fits (o >>= total_fault s n r)
      go None = tt
      go (Some t) = total-small r t

-- ---- the mark

module _ (s : Sheet) (S : Sized s) where
  first_small : (n : ℕ) (rs : List Run) → n + length rs ≤ limit → All (λ (r : Run). Inside s r.calls) rs → Holds Fits (first_fault s n rs)
  first_small n [] h i = tt
  first_small n (r ∷ rs) h i = or-small (run_fault s n r) (first_fault s (suc n) rs) (run_small s S n (omega arith) r i.0) (first_small (suc n) rs (omega arith) i.1)

  against-small : (planner cost : ℕ) → Fits (against planner cost)
  against-small planner cost = by-test (ltb planner cost) (λ t. rw t tt) (λ f. by-test (ltb cost planner) (λ t. rw (f, t) tt) (λ g. rw (f, g) tt))

  mark-small : (plan : Result) (runs : List Run) → length runs ≤ most_calls → length (joined runs) ≤ most_calls → All (λ (r : Run). Inside s r.calls) runs → Fits (mark_against s plan runs)
  unfolding mark_against
  mark-small plan runs few long i = go (differ 1 (joined runs) plan.served) refl
    where
      go : (o : Option ℕ) → differ 1 (joined runs) plan.served ≡ o → Fits (mark_against s plan runs)
      go (Some p) e = rw (e, mark_against) (omega (arith, differ-small 1 (joined runs) plan.served p e, long))
      go None e =
          let cost = cutting_cost s runs in
          rw (e, mark_against)
          (value-small (against plan.cost cost) (first_fault s 1 runs) (against-small plan.cost cost) (first_small 1 runs (omega (arith, few)) i))

-- ---- as many runs as run ends, of the calls

runs-many : (p : ℕ) (calls ends : List ℕ) → length (runs_from p calls ends) ≡ length ends
unfolding runs_from
runs-many p calls [] = refl
runs-many p calls (e ∷ ends) = ap suc (runs-many e (drop (e - p) calls) ends)

with-many : (rs : List (List ℕ)) (breaks : List ℕ) → length (with_places rs breaks) ≡ length rs
with-many [] breaks = refl
with-many (r ∷ rs) [] = ap suc (with-many rs [])
with-many (r ∷ rs) (b ∷ breaks) = ap suc (with-many rs breaks)

module _ (p : Placement) (l : Lent ℕ) (h : refusal_of Some marking l ≡ None) where
  abbrev s : Sheet
  s = whole_sheet Some l.sheet

  A : Accepted Some marking l
  A = accepted-within Some marking l h

  -- the calls of the runs are those lent
  same-calls : joined (with_places (runs_of l.calls l.ends) l.breaks) ≡ l.calls
  same-calls =
      ap calls_of (with-calls (runs_of l.calls l.ends) l.breaks)
      ∙ calls_back 0 l.calls l.ends (rw (zero-add (length l.calls)) (rises 0 l.ends (length l.calls) A.runs.ends))

  pub accepted-small : Fits (mark_by p s l.tour (with_places (runs_of l.calls l.ends) l.breaks))
  accepted-small =
      let runs = with_places (runs_of l.calls l.ends) l.breaks in
      let few : length l.ends ≤ most_calls = ltb-false most_calls (length l.ends) A.runs.few in
      mark-small s (sized s A.within) (split_by p s l.tour) runs
      (omega (arith, with-many (runs_of l.calls l.ends) l.breaks, runs-many 0 l.calls l.ends, few))
      (omega (arith, ap length same-calls, few-calls s l.calls A.calls))
      (with_all (Inside s) (runs_of l.calls l.ends) l.breaks (runs-inside s 0 l.calls l.ends (few-calls s l.calls A.calls, calls-inside s l.calls A.calls)))

-- the verdict that is given
given-fits : (p : Placement) (l : Lent ℕ) (v : Verdict) → mark_by_of Some p l ≡ gives v → Fits v
unfolding answer
given-fits p l v e = go (refusal_of Some marking l) refl e
  where
    go : (o : Option ℕ) → refusal_of Some marking l ≡ o → unless_refused o (mark_by p (whole_sheet Some l.sheet) l.tour (with_places (runs_of l.calls l.ends) l.breaks)) ≡ gives v → Fits v
    go None h g =
        let same : mark_by p (whole_sheet Some l.sheet) l.tour (with_places (runs_of l.calls l.ends) l.breaks) ≡ v = cc in
        subst Fits same (accepted-small p l h)
    go (Some n) h g = let z : ◌≡◌ {A = ℕ} 0 1 = cc in absurd (omega arith)

pub marked-fits : (p : Placement) (s : Sheet) (tour : List ℕ) (runs : GivenRuns) (v : Verdict) → marked_on p s tour runs ≡ gives v → Fits v
unfolding marked_on
marked-fits p s tour runs v e = given-fits p (lent_with s tour runs.calls runs.ends runs.breaks []) v e
