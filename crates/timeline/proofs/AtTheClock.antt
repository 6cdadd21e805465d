-- Where the break is at the clock's place, or left out where it has none, the timeline of a run is what `build_route` tells of it. Assumes nothing.
use Prim.Native.Nat.{ℕ, zero, suc, ◌+◌, ◌<◌}
use native.Mathlib.Omega.{arith}
use native.Mathlib.Nat.{not-suc-le-zero}
use mathlib.Core.Path.{◌≡◌, refl, sym, ap, subst, ◌∙◌}
use mathlib.Core.Bool.{true, false, not, ◌&&◌, ◌||◌, and-false}
use mathlib.Core.List.{List, [], ◌∷◌}
use Rattle.std.specs.Prelude.{Option, None, Some}
use lib.Dec.{eqb}
use lib.ListN.{length, get_or, take}
use borrow.Author.Tests.{eq-eqb, ne_eqb, eqb-true, leb-true}
use Rattle.basics.specs.Options.{◌>>=◌, present, value_or}
use Rattle.basics.specs.Lists.{is_empty}
use Rattle.basics.proofs.TestLaws.{by-test, not-both}
use Rattle.basics.proofs.OptionLaws.{clash, there}
use Rattle.definitions.specs.Load.{Load, no_load, plus}
use Rattle.definitions.specs.Sheet.{Break, Sheet, Leg, customer, drive}
use Rattle.definitions.specs.Window.{Entry}
use Rattle.definitions.specs.Limits.{excused}
use Rattle.definitions.specs.Run.{break_start, too_late, ready, Label, start, serve, serve_at, Run, break_at, serve_all, last_of, distance_from, first_closed, Totals, home, placed}
use Rattle.definitions.specs.Clock.{clock, place_or, start_of}
use Rattle.definitions.specs.Visits.{Violation, Route, arrives_at, ready_for, entered, visited, windows_from, last_label, no_totals, open_route, build_route}
use Rattle.definitions.specs.Timeline.{Stop, Timeline, rest_start, stops_from, rest_of, untaken, closed_timeline, open_timeline, timeline, route_of}
use Rattle.theorems.proofs.Roads.{distance-on, open-distance, distance-home, home_by, home-is}
use Rattle.theorems.proofs.Serving.{serve-leg, served-at}
use Rattle.theorems.proofs.Legality.{clock-own, ridden, rides, clock-least}
use Rattle.theorems.proofs.Marking.{served-none}
use Rattle.theorems.proofs.Visiting.{route-closed, route-open, arrives-by, visited-served, last-served}
use Rattle.timeline.proofs.Stops.{visits-of, rest-past, rest-here, rest-later}

-- ---- by the first closed leg

module _ (s : Sheet) (r : Run) where
  pub timeline-closed : (leg : ℕ) → first_closed s r.calls ≡ Some leg → timeline s r ≡ closed_timeline leg
  unfolding timeline
  timeline-closed leg e = rw (e, timeline) refl

  pub timeline-open : first_closed s r.calls ≡ None → timeline s r ≡ open_timeline s r
  unfolding timeline
  timeline-open e = rw (e, timeline) refl

-- ---- a run that is served with its break

off : (place k m : ℕ) → place ≡ k + suc m → place ≡ k → ⊥
off place k m e f = omega arith

not_first : (k : ℕ) → 0 < k → 0 ≡ k → ⊥
not_first k h e = omega arith

-- the break of a call that is served is not too late
taken : (b : Break) (arrival r : ℕ) → ready (Some b) arrival ≡ Some r → rest_start (Some b) arrival ≡ Some (break_start b arrival)
unfolding ready
taken b arrival r e = by-test (too_late b arrival) (λ y. clash (rw y at e)) (λ n. rw n)

module _ (s : Sheet) (place : ℕ) (b : Break) (rest-is : s.head.rest ≡ Some b) where
  -- where the rest of a run is served there is a label before it
  label-before : (k a : ℕ) (m : Option Label) (calls : List ℕ) (last : Label) → serve_all s place k a m calls ≡ Some last → (n : Label) × (m ≡ Some n)
  label-before k a None calls last q = clash (sym (served-none s 0 place k a calls) ∙ q)
  label-before k a (Some n) calls last q = (n, refl)

  -- the start of a break m calls on from here, where the calls before it are served
  abbrev start_after : ℕ → ℕ → ℕ → Option Label → List ℕ → Option ℕ
  start_after m k a x calls =
      serve_all s 0 k a x (take m calls)
      >>= λ n. drive s (last_of a (take m calls)) (get_or calls m 0)
      >>= λ g. Some (break_start b (n.time + g.travel))

  -- at the call itself
  starts-here : (k a c : ℕ) (l n : Label) → place ≡ k → serve s (break_at s place k) k a c l ≡ Some n
      → (v : ℕ) × (rest_start s.head.rest (arrives_at s a c l) ≡ Some v) × ((drive s a c >>= λ g. Some (break_start b (l.time + g.travel))) ≡ Some v)
  starts-here k a c l n e q =
      let here : break_at s place k ≡ Some b = rw (eq-eqb place k e) rest-is in
      let (g, way, served) = serve-leg s (break_at s place k) k a c l n q in
      let r = served-at (customer s c) (break_at s place k) k g.travel l n served in
      let on : ready (Some b) (l.time + g.travel) ≡ Some r.0 = sym (ap (λ (x : Option Break). ready x (l.time + g.travel)) here) ∙ r.1 in (
        break_start b (l.time + g.travel),
        ap (λ (o : Option Break). rest_start o (arrives_at s a c l)) rest-is ∙ ap (λ (t : ℕ). rest_start (Some b) t) (arrives-by s l a c g way) ∙ taken b (l.time + g.travel) r.0 on,
        ap (λ (x : Option Leg). x >>= λ h. Some (break_start b (l.time + h.travel))) way,
      )

  starts_from : (m k a : ℕ) (l : Label) (n : Load) (calls : List ℕ) (last : Label) → 0 < k → place ≡ k + m → m < length calls → serve_all s place k a (Some l) calls ≡ Some last
      → (v : ℕ) × (rest_of (stops_from s place k a l n calls) ≡ Some v) × (start_after m k a (Some l) calls ≡ Some v)
  unfolding serve_all
  starts_from m k a l n [] last h e i q = absurd (not-suc-le-zero i)
  starts_from zero k a l n (c ∷ cs) last h e i q =
      let x = label-before (suc k) c (serve s (break_at s place k) k a c l) cs last q in
      let (v, rest, began) = starts-here k a c l x.0 (omega arith) x.1 in
      (v, rest-here s place k a l n c cs (omega arith) ∙ rest, began)
  starts_from (suc m) k a l n (c ∷ cs) last h e i q =
      let x = label-before (suc k) c (serve s (break_at s place k) k a c l) cs last q in
      let apart = off place k m e in
      let away : break_at s place k ≡ None = rw (ne_eqb place k apart) in
      let served : serve s None k a c l ≡ Some x.0 = subst (λ (o : Option Break). serve s o k a c l ≡ Some x.0) away x.1 in
      let nowhere : break_at s 0 k ≡ None = rw (ne_eqb 0 k (not_first k h)) in
      let first : serve s (break_at s 0 k) k a c l ≡ Some x.0 = subst (λ (o : Option Break). serve s o k a c l ≡ Some x.0) (sym nowhere) served in
      let on = (visited-served s None k a c l x.0 served).0 in
      let load = plus n (customer s c).demand in
      let (v, rest, began) = starts_from m (suc k) c x.0 load cs last (omega arith) (omega arith) (omega arith) (rw x.1 at q) in (
        v,
        rest-later s place k a l n c cs apart ∙ ap (λ (y : Label). rest_of (stops_from s place (suc k) c y load cs)) on ∙ rest,
        ap (λ (o : Option Label). start_after m (suc k) c o cs) first ∙ began,
      )

-- ---- a run whose windows are all kept without a break is served

serve-open : (s : Sheet) (k a c : ℕ) (l : Label) (g : Leg) (e : Entry) → drive s a c ≡ Some g → entered s c (ready_for s None a c l) ≡ Some e
    → serve s None k a c l ≡ Some (visited s None k a c l)
unfolding serve_at visited ready
serve-open s k a c l g e way q =
    let on : entered s c (l.time + g.travel) ≡ Some e = sym (ap (λ (n : ℕ). entered s c n) (arrives-by s l a c g way)) ∙ q in
    rw (way, on, q)

served-open : (s : Sheet) (k a : ℕ) (l : Label) (calls : List ℕ) (d : ℕ) → 0 < k → distance_from s a calls ≡ Some d → is_empty (windows_from s 0 k a l calls) ≡ true
    → serve_all s 0 k a (Some l) calls ≡ Some (last_label s 0 k a l calls)
unfolding serve_all last_label windows_from
served-open s k a l [] d h far w = refl
served-open s k a l (c ∷ cs) d h far w =
    let (g, way, rest, on, sum) = distance-on s a c cs d far in
    let nowhere : break_at s 0 k ≡ None = rw (ne_eqb 0 k (not_first k h)) in
    let kept = rw nowhere at w in
    by-test (present (entered s c (ready_for s None a c l)))
    (λ y. let (e, q) = there (entered s c (ready_for s None a c l)) y in
    rw (nowhere, serve-open s k a c l g e way q) (served-open s (suc k) c (visited s None k a c l) cs rest (omega arith) on (rw y at kept)))
    (λ n. absurd (no (rw n at kept)))
  where
    no : false ≡ true → ⊥
    no e = not-both true refl (sym e)

-- ---- with the break where the clock puts it

module _ (s : Sheet) (calls : List ℕ) where
  abbrev stops_at : ℕ → List Stop
  stops_at place = stops_from s place 1 0 start no_load calls

  abbrev windows_at : ℕ → List Violation
  windows_at place = windows_from s place 1 0 start calls

  abbrev totals_at : ℕ → Totals
  totals_at place = value_or no_totals (home s calls (last_label s place 1 0 start calls))

  -- where the clock has an answer: at a call the break starts as the clock says, and at none the run is excused
  abbrev Clocked : Break → ℕ → Type 0
  Clocked b place =
      (rest_of (stops_at place) ≡ start_of s (record { calls = calls; place = place }))
      × (present (rest_of (stops_at place)) || (eqb place 0 && excused b (totals_at place).duration) ≡ true)

  -- the clock's place is one that the break may have
  own-place : (b : Break) → s.head.rest ≡ Some b → (t : Totals) → clock s calls ≡ Some t → placed (Some b) t.place (length calls) t.duration ≡ true
  own-place b r t q = subst (λ (x : Option Break). placed x t.place (length calls) t.duration ≡ true) r (clock-own s calls t q).1

  -- when a break before call number k, from 0, starts
  abbrev started : ℕ → Break → Option ℕ
  started k h =
      serve_all s 0 1 0 (Some start) (take k calls)
      >>= λ n. drive s (last_of 0 (take k calls)) (get_or calls k 0)
      >>= λ g. Some (break_start h (n.time + g.travel))

  clocked-by : (b : Break) → s.head.rest ≡ Some b → (t : Totals) → clock s calls ≡ Some t → (p : ℕ) → t.place ≡ p → Clocked b p
  unfolding start_of placed
  clocked-by b r t q zero e =
      let o = clock-own s calls t q in
      let l = ridden s calls t.place t o.0 in
      let v = last-served s t.place 1 0 start calls l.0 l.1 in
      let past = rest-past s 0 1 0 start no_load calls (omega arith) in
      let home_at : totals_at 0 ≡ t =
      subst (λ (p : ℕ). totals_at p ≡ t) e (ap (λ (x : Label). value_or no_totals (home s calls x)) v.0 ∙ ap (λ (x : Option Totals). value_or no_totals x) l.2) in
      let early : excused b t.duration ≡ true = subst (λ (p : ℕ). placed (Some b) p (length calls) t.duration ≡ true) e (own-place b r t q) in
      (past, rw past (ap (λ (u : Totals). excused b u.duration) home_at ∙ early))
  clocked-by b r t q (suc k) e =
      let o = clock-own s calls t q in
      let l = ridden s calls t.place t o.0 in
      let own = subst (λ (p : ℕ). placed (Some b) p (length calls) t.duration ≡ true) e (own-place b r t q) in
      let served = subst (λ (p : ℕ). serve_all s p 1 0 (Some start) calls ≡ Some l.0) e l.1 in
      let few = leb-true (suc k) (length calls) own in
      let (v, rest, began) = starts_from s (suc k) b r k 1 0 start no_load calls l.0 (omega arith) (omega arith) (omega arith) served in
      (rest ∙ sym (ap (λ (o : Option Break). o >>= started k) r ∙ began), rw rest refl)

  -- where it has none: the run goes without, and where all windows are kept it is not excused
  unclocked : (b : Break) → s.head.rest ≡ Some b → first_closed s calls ≡ None → clock s calls ≡ None → is_empty (windows_at 0) ≡ true → excused b (totals_at 0).duration ≡ false
  unfolding placed
  unclocked b r roads q w =
      let (d, far) = open-distance s 1 0 calls roads in
      let (back, way) = distance-home s 0 calls d far in
      let last = last_label s 0 1 0 start calls in
      let came = home-is s calls d back far way last in
      let rode = rides s calls 0 last (served-open s 1 0 start calls d (omega arith) far w) ∙ came in
      by-test (excused b (totals_at 0).duration)
      (λ y. let sooner = sym (ap (λ (x : Option Totals). excused b (value_or no_totals x).duration) came) ∙ y in
      let early : placed s.head.rest 0 (length calls) (home_by s calls d back.travel last).duration ≡ true =
      ap (λ (x : Option Break). placed x 0 (length calls) (home_by s calls d back.travel last).duration) r ∙ sooner in
      let u = clock-least s calls 0 (home_by s calls d back.travel last) rode early in
      clash (sym q ∙ u.1))
      (λ n. n)

  -- when the break starts, and whether it is told, by what the sheet and the clock have
  abbrev Starts : Option Totals → Type 0
  Starts o = rest_of (stops_at (place_or o)) ≡ start_of s (record { calls = calls; place = place_or o })

  abbrev Told : Option Break → Option Totals → Type 0
  Told r o =
      (untaken r (place_or o) (stops_at (place_or o)) (totals_at (place_or o)).duration && is_empty (windows_at (place_or o)))
      ≡ (present r && not (present o) && is_empty (windows_at (place_or o)))

  unplaced : rest_of (stops_at 0) ≡ start_of s (record { calls = calls; place = 0 })
  unfolding start_of
  unplaced = rest-past s 0 1 0 start no_load calls (omega arith)

  starts_by : (r : Option Break) → s.head.rest ≡ r → (o : Option Totals) → clock s calls ≡ o → Starts o
  unfolding placed
  starts_by r e None q = unplaced
  starts_by None e (Some t) q =
      let own = subst (λ (x : Option Break). placed x t.place (length calls) t.duration ≡ true) e (clock-own s calls t q).1 in
      subst (λ (p : ℕ). rest_of (stops_at p) ≡ start_of s (record { calls = calls; place = p })) (sym (eqb-true t.place 0 own)) unplaced
  starts_by (Some b) e (Some t) q = (clocked-by b e t q t.place refl).0

  told-by : first_closed s calls ≡ None → (r : Option Break) → s.head.rest ≡ r → (o : Option Totals) → clock s calls ≡ o → Told r o
  told-by roads None e o q = refl
  told-by roads (Some b) e (Some t) q = rw (clocked-by b e t q t.place refl).1 refl
  told-by roads (Some b) e None q =
      by-test (is_empty (windows_at 0))
      (λ w. rw (w, rest-past s 0 1 0 start no_load calls (omega arith), unclocked b e roads q w) refl)
      (λ w. rw (w, and-false) refl)

  open-alike : first_closed s calls ≡ None → route_of (open_timeline s (record { calls = calls; place = place_or (clock s calls) })) ≡ open_route s calls
  unfolding open_timeline open_route
  open-alike roads =
      rw (
        visits-of s (place_or (clock s calls)) 1 0 start no_load calls,
        starts_by s.head.rest refl (clock s calls) refl,
        told-by roads s.head.rest refl (clock s calls) refl,
      )

  -- for every sheet
  pub at-the-clock : route_of (timeline s (record { calls = calls; place = place_or (clock s calls) })) ≡ build_route s calls
  at-the-clock = go (first_closed s calls) refl
    where
      run : Run
      run = record { calls = calls; place = place_or (clock s calls) }

      go : (o : Option ℕ) → first_closed s calls ≡ o → route_of (timeline s run) ≡ build_route s calls
      go (Some leg) e = ap route_of (timeline-closed s run leg e) ∙ sym (route-closed s calls leg e)
      go None e = ap route_of (timeline-open s run e) ∙ open-alike e ∙ sym (route-open s calls e)
