-- What a verdict says: a fault names a test that fails, with its figures, and every test before it holds; all earlier runs have no fault. Assumes nothing.
use Prim.Native.Nat.{ℕ, zero, suc, ◌+◌, ◌≤◌, ◌<◌}
use native.Mathlib.Omega.{arith}
use mathlib.Core.Path.{◌≡◌, refl, sym, ap, subst, ◌∙◌}
use mathlib.Core.Bool.{Bool, true, false, cond, not, true≢false}
use mathlib.Core.List.{List, [], ◌∷◌, tail}
use Rattle.std.specs.Prelude.{Option, None, Some, option_map}
use lib.ListN.{length, get_or, take}
use lib.Dec.{ltb, leb, eqb}
use borrow.Author.Tests.{ltb-true, leb-false, eqb-true, eqb-false, le-leb, eq-eqb}
use Rattle.basics.proofs.TestLaws.{by-test, not-both, and-true}
use Rattle.basics.specs.Options.{◌>>=◌, present, value_or, or_else, given}
use Rattle.basics.proofs.OptionLaws.{same, clash, bound}
use Rattle.basics.specs.Lists.{is_empty, all, All}
use Rattle.definitions.specs.Load.{seated}
use Rattle.definitions.specs.Sheet.{Window, Break, Sheet, Leg}
use Rattle.definitions.specs.Window.{due_of, enter}
use Rattle.definitions.specs.Limits.{within, excused}
use Rattle.definitions.specs.Run.{break_start, too_late, ready, serve_at, Label, start, serve, Run, break_at, serve_all, last_of, first_closed, Totals, ride, load, fits, placed}
use Rattle.definitions.specs.Cutting.{joined, cutting_cost}
use Rattle.definitions.specs.Drop.{Result}
use Rattle.definitions.specs.Marker.{Verdict, other_calls, overload_of, break_missing, too_far, too_long, road_closed, differ, break_or, arrival_fault, call_fault, walk_fault, total_fault, run_fault, first_fault, against, mark_against}
use Rattle.definitions.specs.Marks.{Placeable, Proper, Differs, leg_of, Open, Reached, arrival, Home, Fails, by-road, by-load, by-wheelchairs, by-break, by-window, by-missing, by-distance, by-duration, FirstFails, Says, other, fault, priced}
use Rattle.theorems.proofs.Roads.{open-leg, closed_is}
use Rattle.theorems.proofs.Marking.{nothing-mapped, unmarked-legal, unmarked-runs, differ_same, compared, mark-other, mark-same}

-- ---- the walk

-- the first call that fails: how many there are before it, and the label there
record Stops (s : Sheet) (n place k a : ℕ) (l : Label) (calls : List ℕ) (v : Verdict) : Type 0 where
  before : ℕ
  number : ℕ
  number_is : k + before ≡ number
  inside : before < length calls
  label : Label
  served : serve_all s place k a (Some l) (take before calls) ≡ Some label
  fails : serve s (break_at s place number) number (last_of a (take before calls)) (get_or calls before 0) label ≡ None
  says : call_fault s n (break_at s place number) number (last_of a (take before calls)) (get_or calls before 0) label ≡ v

walk-stops : (s : Sheet) (n place k a : ℕ) (l : Label) (calls : List ℕ) (v : Verdict) → walk_fault s n place k a l calls ≡ Some v → Stops s n place k a l calls v
unfolding walk_fault serve_all
walk-stops s n place k a l [] v h = clash h
walk-stops s n place k a l (c ∷ cs) v h = go (serve s (break_at s place k) k a c l) refl (λ m q. walk-stops s n place (suc k) c m cs v q)
  where
    go : (o : Option Label) → serve s (break_at s place k) k a c l ≡ o → ((m : Label) → walk_fault s n place (suc k) c m cs ≡ Some v → Stops s n place (suc k) c m cs v)
        → Stops s n place k a l (c ∷ cs) v
    go None e ih =
        record {
          before = 0;
          number = k;
          number_is = omega arith;
          inside = omega arith;
          label = l;
          served = refl;
          fails = e;
          says = same (rw (e, walk_fault) at h);
        }
    go (Some m) e ih =
        let x = ih m (rw (e, walk_fault) at h) in
        record {
          before = suc x.before;
          number = x.number;
          number_is = omega (arith, x.number_is);
          inside = omega (arith, x.inside);
          label = x.label;
          served = ap (λ (o : Option Label). serve_all s place (suc k) c o (take x.before cs)) e ∙ x.served;
          fails = x.fails;
          says = x.says;
        }

break-there : (here : Option Break) (arrival : ℕ) → ready here arrival ≡ None
    → (here ≡ Some (break_or here)) × ((break_or here).latest < break_start (break_or here) arrival)
unfolding ready
break-there None arrival h = clash (sym h)
break-there (Some b) arrival h =
    by-test (too_late b arrival) (λ t. (refl, ltb-true b.latest (break_start b arrival) t)) (λ f. clash (sym (rw f at h)))

at_its_place : (s : Sheet) (place k : ℕ) (b : Break) → break_at s place k ≡ Some b → (place ≡ k) × (s.head.rest ≡ Some b)
at_its_place s place k b h = by-test (eqb place k) (λ t. (eqb-true place k t, rw t at h)) (λ f. clash (rw f at h))

shut-there : (window : Option Window) (penalty : Option ℕ) (readiness : ℕ) → enter window penalty readiness ≡ None
    → (w : Window) × (window ≡ Some w) × (penalty ≡ None) × (w.due ≡ due_of window) × (due_of window < readiness)
unfolding enter
shut-there None p r h = clash (sym h)
shut-there (Some w) (Some p) r h = clash (sym h)
shut-there (Some w) None r h = by-test (ltb w.due r) (λ t. (w, refl, refl, refl, ltb-true w.due r t)) (λ f. clash (sym (rw f at h)))

module _ (s : Sheet) (n : ℕ) (r : Run) where
  -- the leg to the call that stops it
  leg-to : {v : Verdict} → Open s r.calls → (x : Stops s n r.place 1 0 start r.calls v) → (l : Leg) × (leg_of s r.calls x.before ≡ Some l)
  leg-to roads x = open-leg s 1 0 r.calls roads x.before (omega (arith, x.inside))

  reached-at : {v : Verdict} → Open s r.calls → fits s r.calls ≡ true → (x : Stops s n r.place 1 0 start r.calls v)
      → Reached s r x.number (get_or r.calls x.before 0)
  reached-at roads room x =
      record {
        roads = roads;
        room = room;
        before = x.before;
        number = omega (arith, x.number_is);
        inside = x.inside;
        call-is = refl;
        label = x.label;
        served = x.served;
        leg = (leg-to roads x).0;
        leg-is = (leg-to roads x).1;
      }

  call-fails : {v : Verdict} → Open s r.calls → fits s r.calls ≡ true → Stops s n r.place 1 0 start r.calls v → Fails s n r v
  unfolding serve_at reached-at
  call-fails {v} roads room x = go (ready here (arrival (reached-at roads room x))) refl
    where
      here : Option Break
      here = break_at s r.place x.number

      says : arrival_fault s n here x.number (get_or r.calls x.before 0) (arrival (reached-at roads room x)) ≡ v
      says = rw ((leg-to roads x).1, call_fault) at x.says

      go : (o : Option ℕ) → ready here (arrival (reached-at roads room x)) ≡ o → Fails s n r v
      go None e =
          let t = break-there here (arrival (reached-at roads room x)) e in
          let p = at_its_place s r.place x.number _ t.0 in
          subst (λ (w : Verdict). Fails s n r w) (rw (e, arrival_fault) at says)
          (by-break (record { reached = reached-at roads room x; break = _; rested = p.1; here = p.0; value-is = refl; limit_is = refl; over = t.1 }))
      go (Some readiness) e =
          let q = shut-there _ _ readiness (nothing-mapped _ _ (rw ((leg-to roads x).1, e, serve_at) at x.fails)) in
          subst (λ (w : Verdict). Fails s n r w) (rw (e, arrival_fault) at says)
          (by-window (record { reached = reached-at roads room x; value-is = e; window = q.0; shuts = q.1; hard = q.2; limit_is = q.3; over = q.4 }))

-- ---- the totals

above : (limit : Option ℕ) (n : ℕ) → within limit n ≡ false → (limit ≡ Some (value_or 0 limit)) × (value_or 0 limit < n)
above None n h = absurd (true≢false h)
above (Some m) n h = (refl, leb-false n m h)

unplaced : (rest : Option Break) (place n duration : ℕ) → place ≤ cond (present rest) n 0 → placed rest place n duration ≡ false
    → (rest ≡ Some (break_or rest)) × (place ≡ 0) × (excused (break_or rest) duration ≡ false)
unfolding placed
unplaced None place n duration p h = not-both (eqb place 0) (eq-eqb place 0 (omega arith)) h
unplaced (Some b) zero n duration p h = (refl, refl, h)
unplaced (Some b) (suc k) n duration p h = not-both (leb (suc k) n) (le-leb (suc k) n p) h

-- of two faults: the first, whose test fails, or the other, and the first one's test holds
first_of : {R : Type 0} (t : Bool) (a : Verdict) (o : Option Verdict) (v : Verdict) → or_else (given (not t) a) o ≡ Some v → (t ≡ false → a ≡ v → R) → (t ≡ true → o ≡ Some v → R) → R
first_of true a o v h f g = g refl h
first_of false a o v h f g = f refl (same h)

module _ (s : Sheet) (n : ℕ) (r : Run) (proper : Placeable s r) where
  module _ (t : Totals) (home : Home s r t) where
    missing-fails : placed s.head.rest r.place (length r.calls) t.duration ≡ false → Fails s n r (break_missing n t.duration (break_or s.head.rest).earliest)
    missing-fails p =
        let u = unplaced s.head.rest r.place (length r.calls) t.duration proper p in
        by-missing (record { totals = t; at_home = home; break = _; rested = u.0; nowhere = u.1; value-is = refl; limit_is = refl; needed = u.2 })

    far-fails : placed s.head.rest r.place (length r.calls) t.duration ≡ true → within s.head.max_distance t.distance ≡ false
        → Fails s n r (too_far n t.distance (value_or 0 s.head.max_distance))
    far-fails p d =
        let u = above s.head.max_distance t.distance d in
        by-distance (record { totals = t; at_home = home; break-placed = p; value-is = refl; limit_is = u.0; over = u.1 })

    long-fails : placed s.head.rest r.place (length r.calls) t.duration ≡ true → within s.head.max_distance t.distance ≡ true → within s.head.max_duration t.duration ≡ false
        → Fails s n r (too_long n t.duration (value_or 0 s.head.max_duration))
    long-fails p d l =
        let u = above s.head.max_duration t.duration l in
        by-duration (record { totals = t; at_home = home; break-placed = p; near = d; value-is = refl; limit_is = u.0; over = u.1 })

  becomes : (v : Verdict) {w : Verdict} → Fails s n r w → w ≡ v → Fails s n r v
  becomes v f e = subst (λ (x : Verdict). Fails s n r x) e f

  total-fails : (v : Verdict) (t : Totals) → Home s r t → total_fault s n r t ≡ Some v → Fails s n r v
  total-fails v t home h =
      first_of (placed s.head.rest r.place (length r.calls) t.duration) _ _ v h (λ p e. becomes v (missing-fails t home p) e)
      (λ p h. first_of (within s.head.max_distance t.distance) _ _ v h (λ d e. becomes v (far-fails t home p d) e)
      (λ d h. first_of (within s.head.max_duration t.duration) _ None v (rw h refl) (λ l e. becomes v (long-fails t home p d l) e) (λ l h. clash h)))

  -- the load does not fit: it is over in seats, or within these and over in wheelchair places
  overloaded : Open s r.calls → fits s r.calls ≡ false → Fails s n r (overload_of n (load s r.calls) s.head.capacity)
  overloaded roads f =
      let l = load s r.calls in
      let k = s.head.capacity in
      by-test (seated l k)
      (λ t. rw t (by-wheelchairs (record { roads = roads; seats-fit = t; value-is = refl; limit_is = refl; over = leb-false l.wheelchairs k.wheelchairs (rw t at f) })))
      (λ o. rw o (by-load (record { roads = roads; value-is = refl; limit_is = refl; over = leb-false l.seats k.seats o })))

  -- a fault names a test that fails, and every test before it holds
  pub fault-fails : (v : Verdict) → run_fault s n r ≡ Some v → Fails s n r v
  unfolding run_fault
  fault-fails v h = road (first_closed s r.calls) refl h
    where
      walked : Open s r.calls → fits s r.calls ≡ true → (o : Option Verdict) → walk_fault s n r.place 1 0 start r.calls ≡ o
          → or_else o (ride s r >>= total_fault s n r) ≡ Some v → Fails s n r v
      walked roads room (Some w) e h = becomes v (call-fails s n r roads room (walk-stops s n r.place 1 0 start r.calls w e)) (same h)
      walked roads room None e h = let y = bound (ride s r) _ v h in total-fails v y.0 (record { roads = roads; room = room; rode = y.1 }) y.2

      rest : Option Verdict
      rest =
          or_else (given (not (fits s r.calls)) (overload_of n (load s r.calls) s.head.capacity))
          (or_else (walk_fault s n r.place 1 0 start r.calls) (ride s r >>= total_fault s n r))

      road : (o : Option ℕ) → first_closed s r.calls ≡ o → or_else (option_map (road_closed n) o) rest ≡ Some v → Fails s n r v
      road (Some leg) e h = becomes v (by-road (closed_is s r.calls leg e)) (same h)
      road None e h =
          first_of (fits s r.calls) _ _ v h (λ f q. becomes v (overloaded e f) q) (λ room q. walked e room (walk_fault s n r.place 1 0 start r.calls) refl q)

-- ---- several runs

pub first-fails : (s : Sheet) (n : ℕ) (rs : List Run) → All (Proper s) rs → (v : Verdict) → first_fault s n rs ≡ Some v → FirstFails s n rs v
first-fails s n [] p v h = clash h
first-fails s n (r ∷ rs) p v h = go (run_fault s n r) refl h (λ q. first-fails s (suc n) rs p.1 v q)
  where
    go : (o : Option Verdict) → run_fault s n r ≡ o → or_else o (first_fault s (suc n) rs) ≡ Some v → (first_fault s (suc n) rs ≡ Some v → FirstFails s (suc n) rs v)
        → FirstFails s n (r ∷ rs) v
    go (Some w) e h ih =
        record {
          earlier = [];
          faulty = r;
          later = rs;
          runs-are = refl;
          earlier-legal = refl;
          number = n;
          number_is = omega arith;
          fails = fault-fails s n r p.0.placeable v (e ∙ h);
        }
    go None e h ih =
        let x = ih h in
        record {
          earlier = r ∷ x.earlier;
          faulty = x.faulty;
          later = x.later;
          runs-are = ap (λ (l : List Run). r ∷ l) x.runs-are;
          earlier-legal = and-true _ _ (unmarked-legal s n r p.0.some-calls e) x.earlier-legal;
          number = x.number;
          number_is = omega (arith, x.number_is);
          fails = x.fails;
        }

-- ---- the mark

apart-here : (k : ℕ) (xs ys : List ℕ) (p : ℕ) → Some k ≡ Some p → (take 1 xs ≡ take 1 ys → ⊥) → Differs k xs ys p
apart-here k xs ys p h d = let e = same h in record { before = 0; position = omega arith; same-before = refl; differ-there = d }

pub differ-differs : (k : ℕ) (xs ys : List ℕ) (p : ℕ) → differ k xs ys ≡ Some p → Differs k xs ys p
differ-differs k [] [] p h = clash h
differ-differs k [] (y ∷ ys) p h = apart-here k [] (y ∷ ys) p h (λ e. true≢false (ap is_empty e))
differ-differs k (x ∷ xs) [] p h = apart-here k (x ∷ xs) [] p h (λ e. true≢false (sym (ap is_empty e)))
differ-differs k (x ∷ xs) (y ∷ ys) p h =
    by-test (eqb x y)
    (λ t. let d = differ-differs (suc k) xs ys p (rw t at h) in
    let e = eqb-true x y t in
    record {
      before = suc d.before;
      position = omega (arith, d.position);
      same-before = ap (λ (z : ℕ). z ∷ take d.before xs) e ∙ ap (λ (l : List ℕ). y ∷ l) d.same-before;
      differ-there = λ q. d.differ-there (ap tail q);
    })
    (λ f. apart-here k (x ∷ xs) (y ∷ ys) p (rw f at h) (λ e. eqb-false x y f (ap (λ (l : List ℕ). get_or l 0 0) e)))

pub shaped : (s : Sheet) (rs : List Run) → All (Proper s) rs → all (λ r. not (is_empty r.calls)) rs ≡ true
shaped s [] p = refl
shaped s (r ∷ rs) p = and-true _ _ p.0.some-calls (shaped s rs p.1)

-- the mark is a verdict that says so
pub mark-says : (s : Sheet) (plan : Result) (rs : List Run) → All (Proper s) rs → Says s plan rs (mark_against s plan rs)
mark-says s plan rs proper = go (differ 1 (joined rs) plan.served) refl
  where
    is : (v : Verdict) → mark_against s plan rs ≡ v → Says s plan rs v → Says s plan rs (mark_against s plan rs)
    is v e x = subst (λ (w : Verdict). Says s plan rs w) (sym e) x

    at : joined rs ≡ plan.served → (o : Option Verdict) → first_fault s 1 rs ≡ o → Says s plan rs (value_or (against plan.cost (cutting_cost s rs)) o)
    at e (Some v) f = fault e (first-fails s 1 rs proper v f)
    at e None f = priced (e, unmarked-runs s 1 rs (shaped s rs proper) f) (compared plan.cost (cutting_cost s rs))

    go : (o : Option ℕ) → differ 1 (joined rs) plan.served ≡ o → Says s plan rs (mark_against s plan rs)
    go (Some p) e = is (other_calls p) (mark-other s plan rs p e) (other (differ-differs 1 (joined rs) plan.served p e))
    go None e = is _ (mark-same s plan rs e) (at (differ_same 1 (joined rs) plan.served e) (first_fault s 1 rs) refl)
