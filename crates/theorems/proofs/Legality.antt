-- A run is legal with some break place exactly when it is by the clock; the clock is home no later than any legal place; without lateness pay nothing is paid. Assumes nothing.
use Prim.Native.Nat.{ℕ, zero, suc, ◌+◌, ◌-◌, ◌≤◌, ◌<◌}
use native.Mathlib.Omega.{arith}
use native.Mathlib.Nat.{le_refl, not-suc-le-zero}
use mathlib.Core.Path.{◌≡◌, refl, sym, ap, subst, ◌∙◌}
use mathlib.Core.Bool.{Bool, true, false, not, ◌&&◌, true≢false}
use mathlib.Core.List.{List, [], ◌∷◌}
use Rattle.std.specs.Prelude.{Option, None, Some}
use lib.ListN.{length, get_or}
use lib.Dec.{ltb}
use borrow.Author.Tests.{eqb-true, eq-eqb, ne_eqb, leb-true, le-leb}
use Rattle.basics.proofs.TestLaws.{or_left, or_right, by-test, both, and-true}
use Rattle.basics.specs.Options.{◌>>=◌, holds, present}
use Rattle.basics.proofs.OptionLaws.{same, clash, bound, unbound, held, granted}
use Rattle.basics.specs.Lists.{is_empty, any}
use Rattle.definitions.specs.Sheet.{any_soft, Window, Break, Sheet, Leg, depot, customer, drive, soft, lateness_pay}
use Rattle.definitions.specs.Window.{Entry, enter}
use Rattle.definitions.specs.Limits.{within, excused}
use Rattle.definitions.specs.Run.{Label, start, serve, break_at, serve_all, last_of, distance_from, Totals, home, Run, ride, fits, allowed, placed, legal, price, run_cost}
use Rattle.definitions.specs.Clock.{Clock, tick, clock_from, counts, clock, Arc, arc_of, arc}
use Rattle.theorems.proofs.Places.{kept}
use Rattle.theorems.proofs.Roads.{home_by, home-is, home-closed, home-has}
use Rattle.theorems.proofs.Serving.{served-at, serve-leg, serve-place}

-- ---- the before-label is the run with no break

before-from : (s : Sheet) (k a : ℕ) → 0 < k → (x : Clock) (calls : List ℕ) → (clock_from s k a x calls).before ≡ serve_all s 0 k a x.before calls
unfolding clock_from serve_all
before-from s k a h x [] = refl
before-from s k a h x (c ∷ cs) =
    before-from s (suc k) c (up h) (tick s k a c x) cs
    ∙ ap (λ (o : Option Break). serve_all s 0 (suc k) c (x.before >>= serve s o k a c) cs) (sym (at_other h))
  where
    up : 0 < k → 0 < suc k
    up h = omega arith

    at_other : 0 < k → break_at s 0 k ≡ None
    at_other h = rw (ne_eqb 0 k (λ e. off e)) refl
      where
        off : 0 ≡ k → ⊥
        off e = omega arith

-- behind the call that has the break the place stays
pub place-stays : (s : Sheet) (p k a : ℕ) → p < k → (m : Option Label) (calls : List ℕ) → ((l : Label) → m ≡ Some l → l.place ≡ p)
    → (l : Label) → serve_all s p k a m calls ≡ Some l → l.place ≡ p
unfolding serve_all
place-stays s p k a h m [] z l q = z l q
place-stays s p k a h m (c ∷ cs) z l q =
    place-stays s p (suc k) c (up h) (m >>= serve s (break_at s p k) k a c) cs (λ n e. step n e) l q
  where
    up : p < k → p < suc k
    up h = omega arith

    off : p ≡ k → ⊥
    off e = omega arith

    step : (n : Label) → (m >>= serve s (break_at s p k) k a c) ≡ Some n → n.place ≡ p
    step n e =
        let y = bound m _ n e in
        let d : break_at s p k ≡ None = rw (ne_eqb p k (λ e. off e)) refl in
        sym (serve-place s None k a c y.0 n (subst (λ (o : Option Break). serve s o k a c y.0 ≡ Some n) d y.2)) ∙ z y.0 y.1

-- ---- break places

pub placed-call : (b : Break) (p n d : ℕ) → 0 < p → p ≤ n → placed (Some b) p n d ≡ true
unfolding placed
placed-call b zero n d h i = absurd (not-suc-le-zero h)
placed-call b (suc p) n d h i = le-leb (suc p) n i

module _ (s : Sheet) (calls : List ℕ) where
  abbrev pub with : ℕ → Run
  with p = record { calls = calls; place = p }

  abbrev pub end : Clock
  end = clock_from s 1 0 (record { before = Some start; after = None }) calls

  abbrev pub label_of : ℕ → Option Label
  label_of p = serve_all s p 1 0 (Some start) calls

  pub plain : end.before ≡ label_of 0
  plain = before-from s 1 0 (le_refl 1) (record { before = Some start; after = None }) calls

  pub unbroken : (l : Label) → label_of 0 ≡ Some l → l.place ≡ 0
  unbroken = place-stays s 0 1 0 (le_refl 1) (Some start) calls (λ l q. sym (ap (λ (m : Label). m.place) (same q)))

  -- the run's totals by its label
  pub rides : (p : ℕ) (l : Label) → label_of p ≡ Some l → ride s (with p) ≡ home s calls l
  unfolding ride
  rides p l e = ap (λ (o : Option Label). o >>= home s calls) e

  pub ridden : (p : ℕ) (t : Totals) → ride s (with p) ≡ Some t → (l : Label) × (label_of p ≡ Some l) × (home s calls l ≡ Some t)
  unfolding ride
  ridden p t q = bound (label_of p) _ t q

  -- and by the clock, where there is a way back
  pub clocked : (b : Leg) → drive s (last_of 0 calls) 0 ≡ Some b → (l : Label) → counts s.head.rest b.travel end ≡ Some l → clock s calls ≡ home s calls l
  unfolding clock
  clocked b w l e = rw (w, e) refl

  pub ticked : (t : Totals) → clock s calls ≡ Some t
      → (b : Leg) × (drive s (last_of 0 calls) 0 ≡ Some b) × (l : Label) × (counts s.head.rest b.travel end ≡ Some l) × (home s calls l ≡ Some t)
  unfolding clock
  ticked t q =
      let x = bound (drive s (last_of 0 calls) 0) _ t q in
      let y = bound (counts s.head.rest x.0.travel end) _ t x.2 in
      (x.0, x.1, y.0, y.1, y.2)

  -- a run with a closed leg is none to the clock
  pub clock-closed : distance_from s 0 calls ≡ None → clock s calls ≡ None
  unfolding clock
  clock-closed e = unbound (drive s (last_of 0 calls) 0) _ (λ b. unbound (counts s.head.rest b.travel end) _ (home-closed s calls e))

  -- with that way back it comes to this
  pub home_by_lem : (b : Leg) → drive s (last_of 0 calls) 0 ≡ Some b → (l : Label) (t : Totals) → home s calls l ≡ Some t
      → (d : ℕ) × (distance_from s 0 calls ≡ Some d) × (home_by s calls d b.travel l ≡ t)
  home_by_lem b w l t q =
      let x = home-has s calls l t q in
      (x.0, x.1, ap (λ (c : Leg). home_by s calls x.0 c.travel l) (same (sym w ∙ x.3)) ∙ x.4)

  -- ---- the clock's answer is that of its own place

  -- t is what the run comes to with the place that t has
  abbrev pub Own : Totals → Type 0
  Own t = (ride s (with t.place) ≡ Some t) × (placed s.head.rest t.place (length calls) t.duration ≡ true)

  -- by a label, with so much time on the way back
  abbrev OwnLabel : ℕ → Label → Type 0
  OwnLabel back l = (label_of l.place ≡ Some l) × (placed s.head.rest l.place (length calls) (l.time + back) ≡ true)

  own-label : (back : ℕ) (l : Label) → counts s.head.rest back end ≡ Some l → OwnLabel back l
  unfolding placed
  own-label back l q = go s.head.rest refl
    where
      unplaced : l.place ≡ 0 → label_of 0 ≡ Some l → label_of l.place ≡ Some l
      unplaced z e = ap label_of z ∙ e

      go : (o : Option Break) → s.head.rest ≡ o → OwnLabel back l
      go None e =
          let f : end.before ≡ Some l = subst (λ (o : Option Break). counts o back end ≡ Some l) e q in
          let z = unbroken l (sym plain ∙ f) in
          (unplaced z (sym plain ∙ f), subst (λ (o : Option Break). placed o l.place (length calls) (l.time + back) ≡ true) (sym e) (eq-eqb l.place 0 z))
      go (Some b) e = by-test (holds end.before (λ m. excused b (m.time + back))) free (λ t. taken t)
        where
          f : counts (Some b) back end ≡ Some l
          f = subst (λ (o : Option Break). counts o back end ≡ Some l) e q

          back_to : placed (Some b) l.place (length calls) (l.time + back) ≡ true → placed s.head.rest l.place (length calls) (l.time + back) ≡ true
          back_to h = subst (λ (o : Option Break). placed o l.place (length calls) (l.time + back) ≡ true) (sym e) h

          free : holds end.before (λ m. excused b (m.time + back)) ≡ true → OwnLabel back l
          free t =
              let g : end.before ≡ Some l = rw t at f in
              let z = unbroken l (sym plain ∙ g) in
              let h : excused b (l.time + back) ≡ true = subst (λ (o : Option Label). holds o (λ m. excused b (m.time + back)) ≡ true) g t in
              (unplaced z (sym plain ∙ g), back_to (subst (λ (p : ℕ). placed (Some b) p (length calls) (l.time + back) ≡ true) (sym z) h))

          taken : holds end.before (λ m. excused b (m.time + back)) ≡ false → OwnLabel back l
          taken t =
              let g : end.after ≡ Some l = rw t at f in
              let o = (kept s b e calls).own l g in
              (o.0, back_to (placed-call b l.place (length calls) (l.time + back) o.1 (down l.place (length calls) o.2)))
            where
              down : (p n : ℕ) → p < 1 + n → p ≤ n
              down p n h = omega arith

  pub clock-own : (t : Totals) → clock s calls ≡ Some t → Own t
  clock-own t q =
      let (b, w, l, c, h) = ticked t q in
      let (d, e, f) = home_by_lem b w l t h in
      let o = own-label b.travel l c in
      subst Own f (rides l.place l o.0 ∙ home-is s calls d b e w l, o.1)

  -- ---- no place that the break may have is home earlier

  abbrev NoneEarlier : ℕ → Label → Type 0
  NoneEarlier back l = (u : Label) × (counts s.head.rest back end ≡ Some u) × (u.time ≤ l.time)

  least-label : (back p : ℕ) (l : Label) → label_of p ≡ Some l → placed s.head.rest p (length calls) (l.time + back) ≡ true → NoneEarlier back l
  unfolding placed
  least-label back p l q h = go s.head.rest refl
    where
      go : (o : Option Break) → s.head.rest ≡ o → NoneEarlier back l
      go None e =
          let z = eqb-true p 0 (subst (λ (o : Option Break). placed o p (length calls) (l.time + back) ≡ true) e h) in
          (l, ap (λ (o : Option Break). counts o back end) e ∙ plain ∙ ap label_of (sym z) ∙ q, le_refl l.time)
      go (Some b) e = at p q (subst (λ (o : Option Break). placed o p (length calls) (l.time + back) ≡ true) e h)
        where
          chosen : counts s.head.rest back end ≡ counts (Some b) back end
          chosen = ap (λ (o : Option Break). counts o back end) e

          at : (p : ℕ) → label_of p ≡ Some l → placed (Some b) p (length calls) (l.time + back) ≡ true → NoneEarlier back l
          at zero q h =
              let g : end.before ≡ Some l = plain ∙ q in
              (l, chosen ∙ rw g (rw h refl), le_refl l.time)
          at (suc p) q h =
              by-test (holds end.before (λ m. excused b (m.time + back)))
              (λ t. let y = (kept s b e calls).early (suc p) l q in (y.0, chosen ∙ rw t (plain ∙ y.1), y.2))
              (λ f. let y = (kept s b e calls).least (suc p) (pos p) (up p (length calls) (leb-true (suc p) (length calls) h)) l q in (y.0, chosen ∙ rw f y.1, y.2))
            where
              pos : (p : ℕ) → 0 < suc p
              pos p = omega arith

              up : (p n : ℕ) → suc p ≤ n → suc p < 1 + n
              up p n h = omega arith

  pub clock-least : (p : ℕ) (t : Totals) → ride s (with p) ≡ Some t → placed s.head.rest p (length calls) t.duration ≡ true
      → (u : Totals) × (clock s calls ≡ Some u) × (u.duration ≤ t.duration) × (u.distance ≡ t.distance)
  clock-least p t q h =
      let (l, e, f) = ridden p t q in
      let (d, r, b, w, g) = home-has s calls l t f in
      let i = ap (λ (x : Totals). x.duration) g in
      let (u, c, n) = least-label b.travel p l e (subst (λ (n : ℕ). placed s.head.rest p (length calls) n ≡ true) (sym i) h) in
      (home_by s calls d b.travel u, clocked b w u c ∙ home-is s calls d b r w u, le3 u.time l.time b.travel t.duration n i, ap (λ (x : Totals). x.distance) g)
    where
      le3 : (a b c d : ℕ) → a ≤ b → b + c ≡ d → a + c ≤ d
      le3 a b c d h e = omega arith

-- ---- legal runs

within-le : (limit : Option ℕ) (m n : ℕ) → m ≤ n → within limit n ≡ true → within limit m ≡ true
within-le None m n h w = refl
within-le (Some limit) m n h w = let i = leb-true n limit w in le-leb m limit (omega arith)

allowed-le : (s : Sheet) (u t : Totals) → u.duration ≤ t.duration → u.distance ≡ t.distance → allowed s t ≡ true → allowed s u ≡ true
allowed-le s u t h e a =
    let w = both (within s.head.max_distance t.distance) _ a in
    and-true _ _ (subst (λ (n : ℕ). within s.head.max_distance n ≡ true) (sym e) w.0) (within-le s.head.max_duration u.duration t.duration h w.1)

-- a legal run as one fact each: it comes to t
pub record LegalFacts (s : Sheet) (r : Run) (t : Totals) : Type 0 where
  pub some-calls : not (is_empty r.calls) ≡ true
  pub room : fits s r.calls ≡ true
  pub rode : ride s r ≡ Some t
  pub kept-limits : allowed s t ≡ true
  pub break-placed : placed s.head.rest r.place (length r.calls) t.duration ≡ true

pub legal-has : (s : Sheet) (r : Run) → legal s r ≡ true → (t : Totals) × LegalFacts s r t
unfolding legal
legal-has s r h =
    let a = both (not (is_empty r.calls) && fits s r.calls) _ h in
    let b = both (not (is_empty r.calls)) _ a.0 in
    let c = held (ride s r) _ a.1 in
    let d = both (allowed s c.0) _ c.2 in
    (c.0, record { some-calls = b.0; room = b.1; rode = c.1; kept-limits = d.0; break-placed = d.1 })

pub has-legal : (s : Sheet) (r : Run) (t : Totals) → LegalFacts s r t → legal s r ≡ true
unfolding legal
has-legal s r t L = rw (L.some-calls, L.room, L.rode, L.kept-limits, L.break-placed) refl

-- legal with some place, so legal by the clock
pub legal-arc : (s : Sheet) (r : Run) → legal s r ≡ true → (a : Arc) × (arc s r.calls ≡ Some a)
unfolding arc
legal-arc s r h =
    let (t, L) = legal-has s r h in
    let y = clock-least s r.calls r.place t L.rode L.break-placed in
    let a = allowed-le s y.0 t y.2 y.3 L.kept-limits in
    (record { place = y.0.place; cost = price s y.0.distance y.0.pay }, rw (y.1, L.some-calls, L.room, a) refl)

-- what an arc has that prices one of the run's own totals
pub arc-of : (s : Sheet) (calls : List ℕ) (o : Option Totals) → ((t : Totals) → o ≡ Some t → Own s calls t) → (a : Arc) → (o >>= arc_of s calls) ≡ Some a
    → (t : Totals) × (o ≡ Some t) × LegalFacts s (record { calls = calls; place = t.place }) t × (record { place = t.place; cost = price s t.distance t.pay } ≡ a)
arc-of s calls o own a q =
    let y = bound o _ a q in
    let t = y.0 in
    let g = granted (not (is_empty calls) && fits s calls && allowed s t) (record { place = t.place; cost = price s t.distance t.pay }) a y.2 in
    let b = both (not (is_empty calls) && fits s calls) _ g.0 in
    let c = both (not (is_empty calls)) _ b.0 in
    let o = own t y.1 in
    (t, y.1, record { some-calls = c.0; room = c.1; rode = o.0; kept-limits = b.1; break-placed = o.1 }, g.1)

-- by the clock
pub arc-clock : (s : Sheet) (calls : List ℕ) (a : Arc) → arc s calls ≡ Some a
    → (t : Totals) × (clock s calls ≡ Some t) × LegalFacts s (record { calls = calls; place = t.place }) t × (record { place = t.place; cost = price s t.distance t.pay } ≡ a)
unfolding arc
arc-clock s calls a q = arc-of s calls (clock s calls) (clock-own s calls) a q

-- a run that is ridden has no closed leg, and its distance is that of its legs
pub distance-of : (s : Sheet) (r : Run) (t : Totals) → ride s r ≡ Some t → distance_from s 0 r.calls ≡ Some t.distance
distance-of s r t q =
    let y = ridden s r.calls r.place t q in
    let x = home-has s r.calls y.0 t y.2 in
    x.1 ∙ ap (λ (u : Totals). Some u.distance) x.4

pub cost-of : (s : Sheet) (r : Run) (t : Totals) → ride s r ≡ Some t → run_cost s r ≡ price s t.distance t.pay
unfolding run_cost
cost-of s r t q = rw (q, distance-of s r t q) refl

-- the arc's run is legal, and costs what the arc says
pub facts-arc : (s : Sheet) (calls : List ℕ) (a : Arc) (t : Totals) → LegalFacts s (record { calls = calls; place = t.place }) t
    → record { place = t.place; cost = price s t.distance t.pay } ≡ a
    → (legal s (record { calls = calls; place = a.place }) ≡ true) × (run_cost s (record { calls = calls; place = a.place }) ≡ a.cost)
facts-arc s calls a t L e =
    subst (λ (x : Arc). (legal s (record { calls = calls; place = x.place }) ≡ true) × (run_cost s (record { calls = calls; place = x.place }) ≡ x.cost)) e
    (has-legal s _ t L, cost-of s _ t L.rode)

pub arc-legal : (s : Sheet) (calls : List ℕ) (a : Arc) → arc s calls ≡ Some a
    → (legal s (record { calls = calls; place = a.place }) ≡ true) × (run_cost s (record { calls = calls; place = a.place }) ≡ a.cost)
arc-legal s calls a q = let y = arc-clock s calls a q in facts-arc s calls a y.0 y.2 y.3

-- ---- no lateness pay

any_false : {A : Type 0} (p : A → Bool) (d : A) → p d ≡ false → (l : List A) → any p l ≡ false → (k : ℕ) → p (get_or l k d) ≡ false
any_false p d z [] h k = z
any_false p d z (x ∷ l) h zero = or_left (p x) (any p l) h
any_false p d z (x ∷ l) h (suc k) = any_false p d z l (or_right (p x) (any p l) h) k

soft-no : (s : Sheet) → lateness_pay s ≡ false → (c : ℕ) → soft (customer s c) ≡ false
unfolding any_soft
soft-no s h c = any_false soft depot refl s.customers h c

enter-free : (w : Option Window) (p : Option ℕ) → present w && present p ≡ false → (r : ℕ) (e : Entry) → enter w p r ≡ Some e → e.pay ≡ 0
unfolding enter
enter-free None p h r e q = sym (ap (λ (x : Entry). x.pay) (same q))
enter-free (Some w) None h r e q =
    by-test (ltb w.due r) (λ t. clash (rw t at q)) (λ f. sym (ap (λ (x : Entry). x.pay) (same (rw f at q))))
enter-free (Some w) (Some p) h r e q = absurd (true≢false h)

module _ (s : Sheet) (nopay : lateness_pay s ≡ false) where
  serve-free : (here : Option Break) (k a c : ℕ) (l m : Label) → l.pay ≡ 0 → serve s here k a c l ≡ Some m → m.pay ≡ 0
  serve-free here k a c l m z q =
      let x = serve-leg s here k a c l m q in
      let (r, t, e, i, f) = served-at (customer s c) here k x.0.travel l m x.2 in
      sum0 l.pay e.pay m.pay z (enter-free (customer s c).window (customer s c).penalty (soft-no s nopay c) r e i) (ap (λ (n : Label). n.pay) f)
    where
      sum0 : (a b c : ℕ) → a ≡ 0 → b ≡ 0 → a + b ≡ c → c ≡ 0
      sum0 a b c p q r = omega arith

  served-free : (p k a : ℕ) (m : Option Label) (calls : List ℕ) → ((l : Label) → m ≡ Some l → l.pay ≡ 0) → (l : Label) → serve_all s p k a m calls ≡ Some l → l.pay ≡ 0
  unfolding serve_all
  served-free p k a m [] z l q = z l q
  served-free p k a m (c ∷ cs) z l q =
      served-free p (suc k) c (m >>= serve s (break_at s p k) k a c) cs
      (λ n e. let y = bound m _ n e in serve-free (break_at s p k) k a c y.0 n (z y.0 y.1) y.2) l q

  pub ride-free : (r : Run) (t : Totals) → ride s r ≡ Some t → t.pay ≡ 0
  ride-free r t q =
      let y = ridden s r.calls r.place t q in
      let x = home-has s r.calls y.0 t y.2 in
      sym (ap (λ (u : Totals). u.pay) x.4)
      ∙ served-free r.place 1 0 (Some start) r.calls (λ l e. sym (ap (λ (x : Label). x.pay) (same e))) y.0 y.1
