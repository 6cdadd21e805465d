-- A verdict that says so of the runs is the mark: `Says` is true of no other verdict.
use Prim.Native.Nat.{ℕ, zero, suc, ◌+◌, ◌-◌, ◌≤◌, ◌<◌}
use native.Mathlib.Omega.{arith}
use mathlib.Core.Path.{◌≡◌, refl, sym, ap, ap₂, subst, ◌∙◌}
use mathlib.Core.Bool.{Bool, true, false, cond, not, true≢false}
use mathlib.Core.List.{List, [], ◌∷◌, ◌++◌, tail}
use Rattle.std.specs.Prelude.{Option, None, Some}
use lib.ListN.{length, get_or, take}
use lib.Dec.{ltb, leb, eqb}
use borrow.Author.Tests.{ltb-true, ltb-false, lt-ltb, le-ltb, leb-true, le-leb, eqb-true, eq-eqb, eqb-false}
use Rattle.basics.proofs.TestLaws.{by-test, not-both, both}
use Rattle.basics.specs.Options.{◌>>=◌, present, value_or, or_else, given}
use Rattle.basics.proofs.OptionLaws.{same, clash}
use Rattle.basics.specs.Lists.{is_empty}
use Rattle.definitions.specs.Load.{seated, wheeled}
use Rattle.definitions.specs.Sheet.{Window, Break, Customer, Sheet, Leg, customer, drive}
use Rattle.definitions.specs.Window.{enter, late, due_of}
use Rattle.definitions.specs.Limits.{within}
use Rattle.definitions.specs.Run.{break_start, too_late, ready, Label, start, serve, serve_at, Run, break_at, serve_all, last_of, first_closed, Totals, ride, load, fits, placed, legal}
use Rattle.definitions.specs.Cutting.{joined, legal_cutting, cutting_cost}
use Rattle.definitions.specs.Drop.{Result}
use Rattle.definitions.specs.Marker.{Verdict, other_calls, overload, break_too_late, window_missed, break_missing, too_far, too_long, best, dearer, cheaper, wheelchair_overload, road_closed, differ, break_or, arrival_fault, call_fault, walk_fault, total_fault, run_fault, first_fault, against, mark_against}
use Rattle.definitions.specs.Marks as Marks
use Rattle.definitions.specs.Marks.{Differs, Overloaded, WheelchairsOver, Reached, arrival, BreakLate, WindowLate, Home, BreakLeftOut, Far, Long, Open, Fails, by-road, by-load, by-wheelchairs, by-break, by-window, by-missing, by-distance, by-duration, FirstFails, Cuts, Compared, equal, above, below, Says, other, fault, priced}
use Rattle.theorems.proofs.Roads.{is-closed}
use Rattle.theorems.proofs.Marking.{served-none, legal-unmarked, same-differ, mark-other, mark-same, mark-legal}

-- ---- other calls

pub differs-differ : (k : ℕ) (xs ys : List ℕ) (p : ℕ) → Differs k xs ys p → differ k xs ys ≡ Some p
differs-differ k [] [] p d = absurd (d.differ-there refl)
differs-differ k [] (y ∷ ys) p d = at d.before d.position d.same-before
  where
    at : (b : ℕ) → k + b ≡ p → take b [] ≡ take b (y ∷ ys) → Some k ≡ Some p
    at zero e q = ap Some (omega (arith, e))
    at (suc b) e q = absurd (true≢false (ap is_empty q))
differs-differ k (x ∷ xs) [] p d = at d.before d.position d.same-before
  where
    at : (b : ℕ) → k + b ≡ p → take b (x ∷ xs) ≡ take b [] → Some k ≡ Some p
    at zero e q = ap Some (omega (arith, e))
    at (suc b) e q = absurd (true≢false (ap is_empty (sym q)))
differs-differ k (x ∷ xs) (y ∷ ys) p d = at (λ e. differs-differ (suc k) xs ys p e) d.before d.position d.same-before d.differ-there
  where
    at : (Differs (suc k) xs ys p → differ (suc k) xs ys ≡ Some p) → (b : ℕ) → k + b ≡ p → take b (x ∷ xs) ≡ take b (y ∷ ys)
        → (take (suc b) (x ∷ xs) ≡ take (suc b) (y ∷ ys) → ⊥) → differ k (x ∷ xs) (y ∷ ys) ≡ Some p
    at ih zero e q n =
        by-test (eqb x y) (λ t. absurd (n (ap (λ (z : ℕ). z ∷ []) (eqb-true x y t))))
        (λ f. rw f (ap Some (omega (arith, e))))
    at ih (suc b) e q n =
        let h : x ≡ y = ap (λ (l : List ℕ). get_or l 0 0) q in
        rw (eq-eqb x y h)
        (ih
        (record {
          before = b;
          position = omega (arith, e);
          same-before = ap tail q;
          differ-there = λ r. n (ap₂ (λ (z : ℕ) (l : List ℕ). z ∷ l) h r);
        }))

-- ---- the walk

module _ (s : Sheet) (n place : ℕ) where
  pub walk_at : (k a : ℕ) (l : Label) (calls : List ℕ) (b number : ℕ) (m : Label) → k + b ≡ number → b < length calls
      → serve_all s place k a (Some l) (take b calls) ≡ Some m
      → serve s (break_at s place number) number (last_of a (take b calls)) (get_or calls b 0) m ≡ None
      → walk_fault s n place k a l calls ≡ Some (call_fault s n (break_at s place number) number (last_of a (take b calls)) (get_or calls b 0) m)
  unfolding walk_fault serve_all
  walk_at k a l [] b number m e i h f = absurd (none_below i)
    where
      none_below : b < 0 → ⊥
      none_below q = omega arith
  walk_at k a l (c ∷ cs) zero number m e i h f =
      subst (λ (j : ℕ). walk_fault s n place k a l (c ∷ cs) ≡ Some (call_fault s n (break_at s place j) j a c m)) here
      (subst (λ (x : Label). walk_fault s n place k a l (c ∷ cs) ≡ Some (call_fault s n (break_at s place k) k a c x)) (same h)
      (rw (subst (λ (x : Label). serve s (break_at s place k) k a c x ≡ None) (sym (same h)) (subst (λ (j : ℕ). serve s (break_at s place j) j a c m ≡ None) (sym here) f), walk_fault) refl))
    where
      here : k ≡ number
      here = omega (arith, e)
  walk_at k a l (c ∷ cs) (suc b) number m e i h f = go (serve s (break_at s place k) k a c l) refl (λ x g. walk_at (suc k) c x cs b number m (omega (arith, e)) (omega (arith, i)) g f)
    where
      go : (o : Option Label) → serve s (break_at s place k) k a c l ≡ o
          → ((x : Label) → serve_all s place (suc k) c (Some x) (take b cs) ≡ Some m
          → walk_fault s n place (suc k) c x cs ≡ Some (call_fault s n (break_at s place number) number (last_of c (take b cs)) (get_or cs b 0) m))
          → walk_fault s n place k a l (c ∷ cs) ≡ Some (call_fault s n (break_at s place number) number (last_of c (take b cs)) (get_or cs b 0) m)
      go None q ih = clash (sym (served-none s n place (suc k) c (take b cs)) ∙ ap (λ (o : Option Label). serve_all s place (suc k) c o (take b cs)) (sym q) ∙ h)
      go (Some x) q ih =
          rw (q, walk_fault)
          (ih x (ap (λ (o : Option Label). serve_all s place (suc k) c o (take b cs)) (sym q) ∙ h))

  served-walk : (k a : ℕ) (l : Label) (calls : List ℕ) (m : Label) → serve_all s place k a (Some l) calls ≡ Some m → walk_fault s n place k a l calls ≡ None
  unfolding walk_fault serve_all
  served-walk k a l [] m h = refl
  served-walk k a l (c ∷ cs) m h = go (serve s (break_at s place k) k a c l) refl (λ x q. served-walk (suc k) c x cs m q)
    where
      go : (o : Option Label) → serve s (break_at s place k) k a c l ≡ o → ((x : Label) → serve_all s place (suc k) c (Some x) cs ≡ Some m → walk_fault s n place (suc k) c x cs ≡ None)
          → walk_fault s n place k a l (c ∷ cs) ≡ None
      go None e ih = clash (sym (served-none s n place (suc k) c cs) ∙ ap (λ (o : Option Label). serve_all s place (suc k) c o cs) (sym e) ∙ h)
      go (Some x) e ih = rw (e, walk_fault) (ih x (ap (λ (o : Option Label). serve_all s place (suc k) c o cs) (sym e) ∙ h))

-- ---- a call that fails

module _ (s : Sheet) (n k a c : ℕ) (l : Label) (leg : Leg) (way : drive s a c ≡ Some leg) where
  break-fails : (b : Break) (value limit : ℕ) → break_start b (l.time + leg.travel) ≡ value → b.latest ≡ limit → limit < value
      → (serve s (Some b) k a c l ≡ None) × (call_fault s n (Some b) k a c l ≡ break_too_late n k c value limit)
  unfolding serve_at ready
  break-fails b value limit e f o = (rw (way, t) refl, rw (way, t, call_fault, arrival_fault) (ap₂ (λ (x y : ℕ). break_too_late n k c x y) e f))
    where
      t : ltb b.latest (break_start b (l.time + leg.travel)) ≡ true
      t = rw (e, f) (lt-ltb limit value o)

  window-fails : (here : Option Break) (w : Window) (value limit : ℕ) → ready here (l.time + leg.travel) ≡ Some value → (customer s c).window ≡ Some w → (customer s c).penalty ≡ None
      → w.due ≡ limit → limit < value → (serve s here k a c l ≡ None) × (call_fault s n here k a c l ≡ window_missed n k c value limit)
  unfolding serve_at enter
  window-fails here w value limit e g h f o = (rw (way, e, g, h, t) refl, rw (way, e, call_fault, arrival_fault) (rw g (ap (λ (y : ℕ). window_missed n k c value y) f)))
    where
      t : ltb w.due value ≡ true
      t = rw f (lt-ltb limit value o)

-- ---- a run

module _ (s : Sheet) (n : ℕ) (r : Run) where
  -- no leg is closed and the load fits: what the calls and the totals say
  after-load : Open s r.calls → fits s r.calls ≡ true → (v : Verdict) → or_else (walk_fault s n r.place 1 0 start r.calls) (ride s r >>= total_fault s n r) ≡ Some v → run_fault s n r ≡ Some v
  unfolding run_fault
  after-load o f v h = rw (o, f) h

  walked : (v : Verdict) → Open s r.calls → fits s r.calls ≡ true → walk_fault s n r.place 1 0 start r.calls ≡ Some v → run_fault s n r ≡ Some v
  walked v o f h = after-load o f v (rw h refl)

  closed_run : (leg : ℕ) → first_closed s r.calls ≡ Some leg → run_fault s n r ≡ Some (road_closed n leg)
  unfolding run_fault
  closed_run leg e = rw e refl

  -- a ride that comes home walked without a fault
  home-walk : (t : Totals) → ride s r ≡ Some t → walk_fault s n r.place 1 0 start r.calls ≡ None
  unfolding ride
  home-walk t h = go (serve_all s r.place 1 0 (Some start) r.calls) refl
    where
      go : (o : Option Label) → serve_all s r.place 1 0 (Some start) r.calls ≡ o → walk_fault s n r.place 1 0 start r.calls ≡ None
      go None q = clash (rw q at h)
      go (Some l) q = served-walk s n r.place 1 0 start r.calls l q

  came-home : (t : Totals) → Home s r t → (v : Verdict) → total_fault s n r t ≡ Some v → run_fault s n r ≡ Some v
  came-home t h v f = after-load h.roads h.room v (rw (home-walk t h.rode, h.rode) f)

  over-load : (value limit : ℕ) → Overloaded s r value limit → run_fault s n r ≡ Some (overload n value limit)
  unfolding run_fault
  over-load value limit x =
      by-test (seated (load s r.calls) s.head.capacity) (λ t. absurd (too_much (leb-true (load s r.calls).seats s.head.capacity.seats t)))
      (λ f. rw (x.roads, f) (ap₂ (λ (a b : ℕ). Some (overload n a b)) x.value-is x.limit_is))
    where
      too_much : (load s r.calls).seats ≤ s.head.capacity.seats → ⊥
      too_much h = omega (arith, h, x.value-is, x.limit_is, x.over)

  over-wheelchairs : (value limit : ℕ) → WheelchairsOver s r value limit → run_fault s n r ≡ Some (wheelchair_overload n value limit)
  unfolding run_fault
  over-wheelchairs value limit x =
      by-test (wheeled (load s r.calls) s.head.capacity) (λ t. absurd (too_much (leb-true (load s r.calls).wheelchairs s.head.capacity.wheelchairs t)))
      (λ f. rw (x.roads, x.seats-fit, f) (ap₂ (λ (a b : ℕ). Some (wheelchair_overload n a b)) x.value-is x.limit_is))
    where
      too_much : (load s r.calls).wheelchairs ≤ s.head.capacity.wheelchairs → ⊥
      too_much h = omega (arith, h, x.value-is, x.limit_is, x.over)

  -- the leg to the call that is reached
  way : {k c : ℕ} (x : Reached s r k c) → drive s (last_of 0 (take x.before r.calls)) c ≡ Some x.leg
  way x = subst (λ (d : ℕ). drive s (last_of 0 (take x.before r.calls)) d ≡ Some x.leg) x.call-is x.leg-is

  -- the call that is reached fails, and says so
  reached-fails : (k c : ℕ) (v : Verdict) (x : Reached s r k c)
      → (serve s (break_at s r.place k) k (last_of 0 (take x.before r.calls)) c x.label ≡ None)
      × (call_fault s n (break_at s r.place k) k (last_of 0 (take x.before r.calls)) c x.label ≡ v)
      → run_fault s n r ≡ Some v
  reached-fails k c v x h =
      walked v x.roads x.room
      (walk_at s n r.place 1 0 start r.calls x.before k x.label (omega (arith, x.number)) x.inside x.served
      (subst (λ (d : ℕ). serve s (break_at s r.place k) k (last_of 0 (take x.before r.calls)) d x.label ≡ None) (sym x.call-is) h.0)
      ∙ ap Some (subst (λ (d : ℕ). call_fault s n (break_at s r.place k) k (last_of 0 (take x.before r.calls)) d x.label ≡ v) (sym x.call-is) h.1))

  pub fails-run : (v : Verdict) → Fails s n r v → run_fault s n r ≡ Some v
  unfolding placed
  fails-run v (by-road {leg} x) = closed_run leg (is-closed s r.calls leg x)
  fails-run v (by-load {value} {limit} x) = over-load value limit x
  fails-run v (by-wheelchairs {value} {limit} x) = over-wheelchairs value limit x
  fails-run v (by-break {k} {c} {value} {limit} x) =
      reached-fails k c (break_too_late n k c value limit) x.reached
      (subst
      (λ (o : Option Break).
      (serve s o k (last_of 0 (take x.reached.before r.calls)) c x.reached.label ≡ None)
      × (call_fault s n o k (last_of 0 (take x.reached.before r.calls)) c x.reached.label ≡ break_too_late n k c value limit))
      (sym at-it)
      (break-fails s n k (last_of 0 (take x.reached.before r.calls)) c x.reached.label x.reached.leg (way x.reached) x.break value limit x.value-is x.limit_is x.over))
    where
      at-it : break_at s r.place k ≡ Some x.break
      at-it = rw (eq-eqb r.place k x.here) x.rested
  fails-run v (by-window {k} {c} {value} {limit} x) =
      reached-fails k c (window_missed n k c value limit) x.reached
      (window-fails s n k (last_of 0 (take x.reached.before r.calls)) c x.reached.label x.reached.leg (way x.reached) (break_at s r.place k) x.window value limit
      x.value-is x.shuts x.hard x.limit_is x.over)
  fails-run v (by-missing {value} {limit} x) = came-home x.totals x.at_home _ missing
    where
      late-home : placed s.head.rest r.place (length r.calls) x.totals.duration ≡ false
      late-home = rw (x.rested, x.nowhere) x.needed

      missing : total_fault s n r x.totals ≡ Some (break_missing n value limit)
      missing = rw (late-home, x.rested) (ap₂ (λ (a b : ℕ). Some (break_missing n a b)) x.value-is x.limit_is)
  fails-run v (by-distance {value} {limit} x) = came-home x.totals x.at_home _ far
    where
      over : within s.head.max_distance x.totals.distance ≡ false
      over =
          rw x.limit_is
          (by-test (leb x.totals.distance limit) (λ t. absurd (not_so (leb-true x.totals.distance limit t))) (λ f. f))
        where
          not_so : x.totals.distance ≤ limit → ⊥
          not_so h = omega (arith, h, x.value-is, x.over)

      far : total_fault s n r x.totals ≡ Some (too_far n value limit)
      far = rw (x.break-placed, over) (rw x.limit_is (ap (λ (a : ℕ). Some (too_far n a limit)) x.value-is))
  fails-run v (by-duration {value} {limit} x) = came-home x.totals x.at_home _ long
    where
      over : within s.head.max_duration x.totals.duration ≡ false
      over =
          rw x.limit_is
          (by-test (leb x.totals.duration limit) (λ t. absurd (not_so (leb-true x.totals.duration limit t))) (λ f. f))
        where
          not_so : x.totals.duration ≤ limit → ⊥
          not_so h = omega (arith, h, x.value-is, x.over)

      long : total_fault s n r x.totals ≡ Some (too_long n value limit)
      long = rw (x.break-placed, x.near, over) (rw x.limit_is (ap (λ (a : ℕ). Some (too_long n a limit)) x.value-is))

-- ---- the runs, and the mark

pub first-at : (s : Sheet) (n : ℕ) (earlier : List Run) (f : Run) (later : List Run) (number : ℕ) (v : Verdict) → n + length earlier ≡ number → legal_cutting s earlier ≡ true → Fails s number f v
    → first_fault s n (earlier ++ (f ∷ later)) ≡ Some v
first-at s n [] f later number v e h x = rw (fails-run s n f v (subst (λ (j : ℕ). Fails s j f v) (here e) x)) refl
  where
    here : n + 0 ≡ number → number ≡ n
    here q = omega (arith, q)
first-at s n (r ∷ rs) f later number v e h x =
    let b = both (legal s r) _ h in
    rw (legal-unmarked s n r b.0) (first-at s (suc n) rs f later number v (omega (arith, e)) b.1 x)

against-is : (planner cost : ℕ) (v : Verdict) → Compared planner cost v → against planner cost ≡ v
against-is planner cost v (equal e) = rw (le-ltb cost planner (omega (arith, e)), le-ltb planner cost (omega (arith, e))) refl
against-is planner cost v (above {d} e o) = rw (lt-ltb planner cost (omega (arith, e, o))) (ap dearer (gap planner cost d e))
  where
    gap : (p c d : ℕ) → c ≡ p + d → c - p ≡ d
    gap p c d q = omega (arith, q)
against-is planner cost v (below {d} e o) = rw (le-ltb planner cost (omega (arith, e)), lt-ltb cost planner (omega (arith, e, o))) (ap cheaper (gap cost planner d e))
  where
    gap : (p c d : ℕ) → c ≡ p + d → c - p ≡ d
    gap p c d q = omega (arith, q)

module _ (s : Sheet) (plan : Result) (rs : List Run) where
  pub says-mark : (v : Verdict) → Says s plan rs v → mark_against s plan rs ≡ v
  says-mark v (other {p} d) = mark-other s plan rs p (differs-differ 1 (joined rs) plan.served p d)
  says-mark v (fault e x) =
      mark-same s plan rs (ap (λ (l : List ℕ). differ 1 l plan.served) e ∙ same-differ 1 plan.served)
      ∙ ap (value_or (against plan.cost (cutting_cost s rs)))
      (ap (first_fault s 1) x.runs-are ∙ first-at s 1 x.earlier x.faulty x.later x.number v x.number_is x.earlier-legal x.fails)
  says-mark v (priced c x) = mark-legal s plan rs c.0 c.1 ∙ against-is plan.cost (cutting_cost s rs) v x

  -- no two verdicts say so of the same runs
  pub says-one : (v w : Verdict) → Says s plan rs v → Says s plan rs w → v ≡ w
  says-one v w x y = sym (says-mark v x) ∙ says-mark w y
