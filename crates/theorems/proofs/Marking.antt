-- The marker finds a fault in a run exactly where it is not legal; it says Best, Dearer or Cheaper exactly of legal runs of the served calls, by their cost,
-- and Cheaper only with lateness pay and a break. Assumes nothing.
use Prim.Native.Nat.{ℕ, suc, ◌+◌, ◌-◌, ◌≤◌, ◌<◌}
use native.Mathlib.Omega.{arith}
use mathlib.Core.Logic.{◌↔◌}
use mathlib.Core.Path.{◌≡◌, refl, sym, ap, subst, ◌∙◌}
use mathlib.Core.Bool.{Bool, true, false, not}
use mathlib.Core.List.{List, [], ◌∷◌}
use Rattle.std.specs.Prelude.{Option, None, Some, option_map}
use lib.ListN.{length}
use lib.Dec.{ltb, eqb}
use borrow.Author.Tests.{ltb-true, ltb-false, lt-ltb, le-ltb, eqb-true, eq-eqb}
use Rattle.basics.proofs.TestLaws.{by-test, not-both, both, and-true}
use Rattle.basics.specs.Options.{◌>>=◌, holds, present, value_or, or_else, given}
use Rattle.basics.proofs.OptionLaws.{neither, passed, same, clash}
use Rattle.basics.specs.Lists.{is_empty, all}
use Rattle.definitions.specs.Load.{Load, seated}
use Rattle.definitions.specs.Sheet.{Break, Sheet, Leg, drive, lateness_pay}
use Rattle.definitions.specs.Limits.{within}
use Rattle.definitions.specs.Run.{ready, Label, start, serve, break_at, serve_all, first_closed, Totals, Run, ride, load, fits, placed, legal}
use Rattle.definitions.specs.Cutting.{joined, legal_cutting, cutting_cost}
use Rattle.definitions.specs.Placement.{Placement, by_clock, by_pay}
use Rattle.definitions.specs.Drop.{Result, split_tw, split_by}
use Rattle.definitions.specs.Marker.{mark_against, Verdict, other_calls, overload, overload_of, break_too_late, window_missed, break_missing, too_far, too_long, best, dearer, cheaper, wheelchair_overload, road_closed, differ, break_or, arrival_fault, call_fault, walk_fault, total_fault, run_fault, first_fault, against, mark_by, mark}
use Rattle.definitions.specs.Marks.{Cuts, Compared, equal, above, below}
use Rattle.theorems.proofs.Roads.{by-leg, distance-home, distance-open, open-distance, home_by, home-is}
use Rattle.theorems.proofs.Legality.{rides, ridden, distance-of, legal-has, has-legal, legal-arc, arc-clock}
use Rattle.theorems.proofs.Placing.{placed_by, placed-runs}
use Rattle.theorems.proofs.Promised.{promised, promised-by}

-- what is not there after a step that cannot fail was not there before it
pub nothing-mapped : {A B : Type 0} (o : Option A) (f : A → B) → (o >>= λ x. Some (f x)) ≡ None → o ≡ None
nothing-mapped None f h = refl
nothing-mapped (Some x) f h = clash (sym h)

pub unmapped : {A B : Type 0} (o : Option A) (f : A → B) → option_map f o ≡ None → o ≡ None
unmapped None f h = refl
unmapped (Some x) f h = clash (sym h)

-- ---- the walk

module _ (s : Sheet) (n place : ℕ) where
  walk-served : (k a : ℕ) (l : Label) (calls : List ℕ) → walk_fault s n place k a l calls ≡ None → (m : Label) × (serve_all s place k a (Some l) calls ≡ Some m)
  unfolding walk_fault serve_all
  walk-served k a l [] h = (l, refl)
  walk-served k a l (c ∷ cs) h = go (serve s (break_at s place k) k a c l) refl (λ m q. walk-served (suc k) c m cs q)
    where
      go : (o : Option Label) → serve s (break_at s place k) k a c l ≡ o → ((m : Label) → walk_fault s n place (suc k) c m cs ≡ None → (m' : Label) × (serve_all s place (suc k) c (Some m) cs ≡ Some m'))
          → (m : Label) × (serve_all s place k a (Some l) (c ∷ cs) ≡ Some m)
      go None e ih = clash (sym (rw (e, walk_fault) at h))
      go (Some m) e ih =
          let r = ih m (rw (e, walk_fault) at h) in
          (r.0, ap (λ (o : Option Label). serve_all s place (suc k) c o cs) e ∙ r.1)

  pub served-none : (k a : ℕ) (calls : List ℕ) → serve_all s place k a None calls ≡ None
  unfolding serve_all
  served-none k a [] = refl
  served-none k a (c ∷ cs) = served-none (suc k) c cs

  served-walk : (k a : ℕ) (l : Label) (calls : List ℕ) (m : Label) → serve_all s place k a (Some l) calls ≡ Some m → walk_fault s n place k a l calls ≡ None
  unfolding walk_fault serve_all
  served-walk k a l [] m h = refl
  served-walk k a l (c ∷ cs) m h = go (serve s (break_at s place k) k a c l) refl (λ x q. served-walk (suc k) c x cs m q)
    where
      go : (o : Option Label) → serve s (break_at s place k) k a c l ≡ o → ((x : Label) → serve_all s place (suc k) c (Some x) cs ≡ Some m → walk_fault s n place (suc k) c x cs ≡ None)
          → walk_fault s n place k a l (c ∷ cs) ≡ None
      go None e ih = clash (sym (served-none (suc k) c cs) ∙ ap (λ (o : Option Label). serve_all s place (suc k) c o cs) (sym e) ∙ h)
      go (Some x) e ih = rw (e, walk_fault) (ih x (ap (λ (o : Option Label). serve_all s place (suc k) c o cs) (sym e) ∙ h))

-- ---- a run

pub unmarked-legal : (s : Sheet) (n : ℕ) (r : Run) → not (is_empty r.calls) ≡ true → run_fault s n r ≡ None → legal s r ≡ true
unfolding run_fault
unmarked-legal s n r z h =
    let g = neither (option_map (road_closed n) (first_closed s r.calls)) _ h in
    let a = neither (given (not (fits s r.calls)) _) _ g.1 in
    let b = neither (walk_fault s n r.place 1 0 start r.calls) _ a.1 in
    let m = walk-served s n r.place 1 0 start r.calls b.0 in
    let (t, e) = driven (unmapped (first_closed s r.calls) (road_closed n) g.0) m.0 m.1 in
    let f : total_fault s n r t ≡ None = subst (λ (o : Option Totals). (o >>= total_fault s n r) ≡ None) e b.1 in
    let c = neither (given (not (placed s.head.rest r.place (length r.calls) t.duration)) _) _ f in
    let d = neither (given (not (within s.head.max_distance t.distance)) _) _ c.1 in
    has-legal s r t (record {
      some-calls = z;
      room = passed (fits s r.calls) _ a.0;
      rode = e;
      kept-limits = and-true _ _ (passed (within s.head.max_distance t.distance) _ d.0) (passed (within s.head.max_duration t.duration) _ d.1);
      break-placed = passed (placed s.head.rest r.place (length r.calls) t.duration) _ c.0;
    })
  where
    -- no leg is closed, and all calls are served
    driven : first_closed s r.calls ≡ None → (l : Label) → serve_all s r.place 1 0 (Some start) r.calls ≡ Some l → (t : Totals) × (ride s r ≡ Some t)
    driven o l e =
        let d = open-distance s 1 0 r.calls o in
        let b = distance-home s 0 r.calls d.0 d.1 in
        (home_by s r.calls d.0 b.0.travel l, rides s r.calls r.place l e ∙ home-is s r.calls d.0 b.0 d.1 b.1 l)

pub legal-unmarked : (s : Sheet) (n : ℕ) (r : Run) → legal s r ≡ true → run_fault s n r ≡ None
unfolding run_fault
legal-unmarked s n r h =
    let (t, L) = legal-has s r h in
    let m = ridden s r.calls r.place t L.rode in
    let o = distance-open s 1 0 r.calls t.distance (distance-of s r t L.rode) in
    let w = served-walk s n r.place 1 0 start r.calls m.0 m.1 in
    let b = both (within s.head.max_distance t.distance) _ L.kept-limits in
    rw (o, L.room, w, L.rode) (rw (L.break-placed, b.0, b.1) refl)

pub unmarked-runs : (s : Sheet) (n : ℕ) (rs : List Run) → all (λ r. not (is_empty r.calls)) rs ≡ true → first_fault s n rs ≡ None → legal_cutting s rs ≡ true
unmarked-runs s n [] z h = refl
unmarked-runs s n (r ∷ rs) z h =
    let b = both (not (is_empty r.calls)) _ z in
    let a = neither (run_fault s n r) _ h in
    and-true _ _ (unmarked-legal s n r b.0 a.0) (unmarked-runs s (suc n) rs b.1 a.1)

pub legal-runs-unmarked : (s : Sheet) (n : ℕ) (rs : List Run) → legal_cutting s rs ≡ true → first_fault s n rs ≡ None
legal-runs-unmarked s n [] h = refl
legal-runs-unmarked s n (r ∷ rs) h = let b = both (legal s r) _ h in rw (legal-unmarked s n r b.0) (legal-runs-unmarked s (suc n) rs b.1)

-- ---- other calls

pub differ_same : (k : ℕ) (xs ys : List ℕ) → differ k xs ys ≡ None → xs ≡ ys
differ_same k [] [] h = refl
differ_same k [] (y ∷ ys) h = clash (sym h)
differ_same k (x ∷ xs) [] h = clash (sym h)
differ_same k (x ∷ xs) (y ∷ ys) h =
    by-test (eqb x y)
    (λ t. let e = eqb-true x y t in ap (λ (z : ℕ). z ∷ xs) e ∙ ap (λ (l : List ℕ). y ∷ l) (differ_same (suc k) xs ys (rw t at h)))
    (λ f. clash (sym (rw f at h)))

pub same-differ : (k : ℕ) (xs : List ℕ) → differ k xs xs ≡ None
same-differ k [] = refl
same-differ k (x ∷ xs) = rw (eq-eqb x x refl) (same-differ (suc k) xs)

-- ---- a fault is not Best, Dearer or Cheaper

abbrev pub is_priced : Verdict → Bool
is_priced (other_calls p) = false
is_priced (overload n l c) = false
is_priced (break_too_late n k c t l) = false
is_priced (window_missed n k c t l) = false
is_priced (break_missing n t e) = false
is_priced (too_far n d l) = false
is_priced (too_long n d l) = false
is_priced best = true
is_priced (dearer k) = true
is_priced (cheaper k) = true
is_priced (wheelchair_overload n l c) = false
is_priced (road_closed n k) = false

abbrev Fault : Option Verdict → Type 0
Fault o = (v : Verdict) → o ≡ Some v → is_priced v ≡ false

fault-one : (v : Verdict) → is_priced v ≡ false → (t : Bool) → Fault (given t v)
fault-one v h true w e = subst (λ (x : Verdict). is_priced x ≡ false) (same e) h
fault-one v h false w e = clash e

fault-or : (a b : Option Verdict) → Fault a → Fault b → Fault (or_else a b)
fault-or None b f g = g
fault-or (Some a) b f g = f

call-fault : (s : Sheet) (n : ℕ) (here : Option Break) (k a c : ℕ) (l : Label) → is_priced (call_fault s n here k a c l) ≡ false
call-fault s n here k a c l = by-leg s a c (λ f. rw (f, is_priced) refl) (λ leg e. ap is_priced (reached leg e) ∙ arrival-fault (l.time + leg.travel))
  where
    reached : (leg : Leg) → drive s a c ≡ Some leg → call_fault s n here k a c l ≡ arrival_fault s n here k c (l.time + leg.travel)
    reached leg e = rw (e, call_fault) refl

    arrival-fault : (t : ℕ) → is_priced (arrival_fault s n here k c t) ≡ false
    arrival-fault t = go (ready here t) refl
      where
        go : (o : Option ℕ) → ready here t ≡ o → is_priced (arrival_fault s n here k c t) ≡ false
        go None e = rw (e, is_priced) refl
        go (Some r) e = rw (e, is_priced) refl

walk-fault : (s : Sheet) (n place k a : ℕ) (l : Label) (calls : List ℕ) → Fault (walk_fault s n place k a l calls)
unfolding walk_fault
walk-fault s n place k a l [] = λ v e. clash e
walk-fault s n place k a l (c ∷ cs) = go (serve s (break_at s place k) k a c l) refl (λ m. walk-fault s n place (suc k) c m cs)
  where
    go : (o : Option Label) → serve s (break_at s place k) k a c l ≡ o → ((m : Label) → Fault (walk_fault s n place (suc k) c m cs)) → Fault (walk_fault s n place k a l (c ∷ cs))
    go None e ih = rw (e, walk_fault) (λ v q. subst (λ (x : Verdict). is_priced x ≡ false) (same q) (call-fault s n (break_at s place k) k a c l))
    go (Some m) e ih = rw (e, walk_fault) (ih m)

total-fault : (s : Sheet) (n : ℕ) (r : Run) (t : Totals) → Fault (total_fault s n r t)
total-fault s n r t =
    let A = not (placed s.head.rest r.place (length r.calls) t.duration) in
    let B = not (within s.head.max_distance t.distance) in
    let C = not (within s.head.max_duration t.duration) in
    let x = break_missing n t.duration (break_or s.head.rest).earliest in
    let y = too_far n t.distance (value_or 0 s.head.max_distance) in
    let z = too_long n t.duration (value_or 0 s.head.max_duration) in
    fault-or (given A x) (or_else (given B y) (given C z)) (fault-one x refl A) (fault-or (given B y) (given C z) (fault-one y refl B) (fault-one z refl C))

load-fault : (n : ℕ) (l k : Load) → is_priced (overload_of n l k) ≡ false
load-fault n l k = by-test (seated l k) (λ t. rw t refl) (λ f. rw f refl)

run-fault : (s : Sheet) (n : ℕ) (r : Run) → Fault (run_fault s n r)
unfolding run_fault
run-fault s n r =
    let x = overload_of n (load s r.calls) s.head.capacity in
    let A = not (fits s r.calls) in
    let w = walk_fault s n r.place 1 0 start r.calls in
    fault-or (option_map (road_closed n) (first_closed s r.calls)) (or_else (given A x) (or_else w (ride s r >>= total_fault s n r))) (roads (first_closed s r.calls))
    (fault-or (given A x) (or_else w (ride s r >>= total_fault s n r)) (fault-one x (load-fault n (load s r.calls) s.head.capacity) A)
    (fault-or w (ride s r >>= total_fault s n r) (walk-fault s n r.place 1 0 start r.calls) (go (ride s r))))
  where
    roads : (o : Option ℕ) → Fault (option_map (road_closed n) o)
    roads None = λ v e. clash e
    roads (Some k) = λ v e. subst (λ (x : Verdict). is_priced x ≡ false) (same e) refl

    go : (o : Option Totals) → Fault (o >>= total_fault s n r)
    go None = λ v e. clash e
    go (Some t) = total-fault s n r t

first-fault : (s : Sheet) (n : ℕ) (rs : List Run) → Fault (first_fault s n rs)
first-fault s n [] = λ v e. clash e
first-fault s n (r ∷ rs) = fault-or _ _ (run-fault s n r) (first-fault s (suc n) rs)

-- ---- against the planner's cost

against-priced : (planner cost : ℕ) → is_priced (against planner cost) ≡ true
against-priced planner cost =
    by-test (ltb planner cost) (λ t. rw t refl) (λ f. by-test (ltb cost planner) (λ t. rw (f, t) refl) (λ g. rw (f, g) refl))

module _ (planner cost : ℕ) where
  pub compared : Compared planner cost (against planner cost)
  compared =
      by-test (ltb planner cost)
      (λ t. let h = ltb-true planner cost t in rw t (above {d = cost - planner} (omega arith) (omega arith)))
      (λ f. let h = ltb-false planner cost f in
      by-test (ltb cost planner)
      (λ t. let h = ltb-true cost planner t in rw (f, t) (below {d = planner - cost} (omega arith) (omega arith)))
      (λ g. let k = ltb-false cost planner g in rw (f, g) (equal (omega arith))))

  is-equal : Compared planner cost best → cost ≡ planner
  is-equal (equal e) = e

  is-above : (d : ℕ) → Compared planner cost (dearer d) → (cost ≡ planner + d) × (0 < d)
  is-above d (above e h) = (e, h)

  is_below : (d : ℕ) → Compared planner cost (cheaper d) → (planner ≡ cost + d) × (0 < d)
  is_below d (below e h) = (e, h)

  against-is : (v : Verdict) → Compared planner cost v → against planner cost ≡ v
  against-is v (equal e) = rw (le-ltb cost planner (omega arith), le-ltb planner cost (omega arith)) refl
  against-is v (above e h) = rw (lt-ltb planner cost (omega arith)) (ap dearer (omega arith))
  against-is v (below e h) = rw (le-ltb planner cost (omega arith), lt-ltb cost planner (omega arith)) (ap cheaper (omega arith))

-- without a break on the sheet every legal run is as the clock has it
plain-by-clock : (s : Sheet) → s.head.rest ≡ None → (rs : List Run) → legal_cutting s rs ≡ true → placed_by by_clock s rs ≡ true
unfolding placed
plain-by-clock s e [] h = refl
plain-by-clock s e (r ∷ rs) h =
    let b = both (legal s r) _ h in
    let (t, L) = legal-has s r b.0 in
    let a = legal-arc s r b.0 in
    let y = arc-clock s r.calls a.0 a.1 in
    let p : r.place ≡ 0 = eqb-true r.place 0 (subst (λ (o : Option Break). placed o r.place (length r.calls) t.duration ≡ true) e L.break-placed) in
    let q : y.0.place ≡ 0 = eqb-true y.0.place 0 (subst (λ (o : Option Break). placed o y.0.place (length r.calls) y.0.duration ≡ true) e y.2.break-placed) in
    and-true _ _ (ap (λ (o : Option Totals). holds o (λ t. eqb t.place r.place)) y.1 ∙ eq-eqb y.0.place r.place (q ∙ sym p)) (plain-by-clock s e rs b.1)

-- the mark's three ways
pub mark-other : (s : Sheet) (plan : Result) (rs : List Run) (p : ℕ) → differ 1 (joined rs) plan.served ≡ Some p → mark_against s plan rs ≡ other_calls p
unfolding mark_against
mark-other s plan rs p e = rw (e, mark_against) refl

pub mark-same : (s : Sheet) (plan : Result) (rs : List Run) → differ 1 (joined rs) plan.served ≡ None
    → mark_against s plan rs ≡ value_or (against plan.cost (cutting_cost s rs)) (first_fault s 1 rs)
unfolding mark_against
mark-same s plan rs e = rw (e, mark_against) refl

-- of a legal cutting of the served calls the mark is by its cost alone
pub mark-legal : (s : Sheet) (plan : Result) (rs : List Run) → joined rs ≡ plan.served → legal_cutting s rs ≡ true
    → mark_against s plan rs ≡ against plan.cost (cutting_cost s rs)
mark-legal s plan rs j l =
    mark-same s plan rs (subst (λ (c : List ℕ). differ 1 (joined rs) c ≡ None) j (same-differ 1 (joined rs)))
    ∙ ap (λ (o : Option Verdict). value_or (against plan.cost (cutting_cost s rs)) o) (legal-runs-unmarked s 1 rs l)

module _ (s : Sheet) (plan : Result) (rs : List Run) (shaped : all (λ r. not (is_empty r.calls)) rs ≡ true) where
  priced-cuts : is_priced (mark_against s plan rs) ≡ true → Cuts s plan rs
  priced-cuts h = go (differ 1 (joined rs) plan.served) refl
    where
      at : differ 1 (joined rs) plan.served ≡ None → (o : Option Verdict) → first_fault s 1 rs ≡ o → is_priced (value_or (against plan.cost (cutting_cost s rs)) o) ≡ true
          → Cuts s plan rs
      at e (Some v) f k = not-both (is_priced v) k (first-fault s 1 rs v f)
      at e None f k = (differ_same 1 (joined rs) plan.served e, unmarked-runs s 1 rs shaped f)

      go : (o : Option ℕ) → differ 1 (joined rs) plan.served ≡ o → Cuts s plan rs
      go (Some p) e = not-both (is_priced (mark_against s plan rs)) h (ap is_priced (mark-other s plan rs p e))
      go None e = at e (first_fault s 1 rs) refl (sym (ap is_priced (mark-same s plan rs e)) ∙ h)

  -- the mark is Best, Dearer or Cheaper exactly when the runs are legal with their places and join to the served customers
  pub priced-exactly : (is_priced (mark_against s plan rs) ≡ true) ↔ Cuts s plan rs
  priced-exactly = (priced-cuts, λ c. ap is_priced (mark-legal s plan rs c.0 c.1) ∙ against-priced plan.cost (cutting_cost s rs))

  compared-exactly : (v : Verdict) → is_priced v ≡ true → (mark_against s plan rs ≡ v) ↔ (Cuts s plan rs × Compared plan.cost (cutting_cost s rs) v)
  compared-exactly v p = (
    λ h. let c = priced-cuts (ap is_priced h ∙ p) in (
      c,
      subst (λ (w : Verdict). Compared plan.cost (cutting_cost s rs) w) (sym (mark-legal s plan rs c.0 c.1) ∙ h) (compared plan.cost (cutting_cost s rs)),
    ),
    λ x. mark-legal s plan rs x.0.0 x.0.1 ∙ against-is plan.cost (cutting_cost s rs) v x.1,
  )

  -- Best: at the planner's cost
  pub best-exactly : (mark_against s plan rs ≡ best) ↔ (Cuts s plan rs × (cutting_cost s rs ≡ plan.cost))
  best-exactly =
      let x = compared-exactly best refl in
      (λ h. let y = x.0 h in (y.0, is-equal _ _ y.1), λ y. x.1 (y.0, equal y.1))

  pub dearer-exactly : (d : ℕ) → (mark_against s plan rs ≡ dearer d) ↔ (Cuts s plan rs × (cutting_cost s rs ≡ plan.cost + d) × (0 < d))
  dearer-exactly d =
      let x = compared-exactly (dearer d) refl in
      (λ h. let y = x.0 h in let z = is-above _ _ d y.1 in (y.0, z.0, z.1), λ y. x.1 (y.0, above y.1 y.2))

  pub cheaper-exactly : (d : ℕ) → (mark_against s plan rs ≡ cheaper d) ↔ (Cuts s plan rs × (plan.cost ≡ cutting_cost s rs + d) × (0 < d))
  cheaper-exactly d =
      let x = compared-exactly (cheaper d) refl in
      (λ h. let y = x.0 h in let z = is_below _ _ d y.1 in (y.0, z.0, z.1), λ y. x.1 (y.0, below y.1 y.2))

-- Cheaper, against the clock's cost, occurs only with lateness pay and a break; against the least pay's it never does
module _ (s : Sheet) (tour : List ℕ) (rs : List Run) (shaped : all (λ r. not (is_empty r.calls)) rs ≡ true) (d : ℕ) where
  undercut : {A : Type 0} {planner : ℕ} → planner ≤ cutting_cost s rs → planner ≡ cutting_cost s rs + d → 0 < d → A
  undercut p q r = absurd (omega arith)

  pub cheaper-only : mark s tour rs ≡ cheaper d → (lateness_pay s ≡ true) × (present s.head.rest ≡ true)
  cheaper-only h =
      let (c, e, i) = (cheaper-exactly s (split_tw s tour) rs shaped d).0 h in
      let L = (promised s tour).least in (
        by-test (lateness_pay s) (λ t. t) (λ f. undercut (L.0 f rs c.0 c.1) e i),
        by-rest (λ n. undercut (L.1 rs c.0 (c.1, placed-runs s by_clock rs (plain-by-clock s n rs c.1))) e i) s.head.rest refl,
      )
    where
      by-rest : (s.head.rest ≡ None → present s.head.rest ≡ true) → (o : Option Break) → s.head.rest ≡ o → present s.head.rest ≡ true
      by-rest f None e = f e
      by-rest f (Some b) e = ap present e

  pub never-cheaper : mark_by by_pay s tour rs ≡ cheaper d → ⊥
  never-cheaper h =
      let (c, e, i) = (cheaper-exactly s (split_by by_pay s tour) rs shaped d).0 h in
      undercut ((promised-by s tour by_pay).least rs c.0 c.1) e i

-- the planner's own cutting is marked Best
pub own-best : (p : Placement) (s : Sheet) (tour : List ℕ) → mark_by p s tour (promised-by s tour p).runs ≡ best
own-best p s tour =
    let P = promised-by s tour p in
    let plan = split_by p s tour in
    mark-legal s plan P.runs P.cuts P.all-legal ∙ ap (λ (n : ℕ). against plan.cost n) P.adds-up ∙ against-is plan.cost plan.cost best (equal refl)
