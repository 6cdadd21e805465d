-- The break where the least is paid for lateness: its answer is that of its own place; no place with which the run is allowed is better; and no break is best wherever none is needed. Assumes nothing.
use Prim.Native.Nat.{ℕ, zero, suc, ◌+◌, ◌≤◌, ◌<◌}
use native.Mathlib.Omega.{arith}
use native.Mathlib.Nat.{le_refl, eq-or-lt_of_le}
use mathlib.Core.Path.{◌≡◌, refl, sym, ap, subst, ◌∙◌}
use mathlib.Core.Logic.{⊎_elim}
use mathlib.Core.Bool.{true, ◌&&◌}
use mathlib.Core.List.{List, [], ◌∷◌}
use Rattle.std.specs.Prelude.{Option, None, Some}
use lib.ListN.{length}
use lib.Dec.{eqb}
use borrow.Author.Tests.{eqb-true, eqb-false, eq-eqb, ne_eqb, leb-true}
use Rattle.basics.specs.Options.{◌>>=◌}
use Rattle.basics.proofs.TestLaws.{by-test, both, and-true}
use Rattle.basics.proofs.OptionLaws.{same, bound, granted}
use Rattle.definitions.specs.Sheet.{Break, Sheet, Leg}
use Rattle.definitions.specs.Run.{Label, start, serve, break_at, serve_all, Totals, home, ride, allowed, placed}
use Rattle.definitions.specs.Placement.{ride_at, least_ride}
use Rattle.theorems.proofs.Roads.{home-has}
use Rattle.theorems.proofs.Serving.{serve-place, NoDearer, serve-cheaper}
use Rattle.theorems.proofs.Legality.{place-stays, with, label_of, unbroken, ridden, Own}
use Rattle.theorems.proofs.Picking.{AtMost, picked-one, picked-old, picked-new}

-- ---- the place of a run's totals is the run's

-- the call that has the break leaves its number
place-taken : (s : Sheet) (b : Break) → s.head.rest ≡ Some b → (p k a : ℕ) (m : Option Label) (calls : List ℕ) → k ≤ p → p < k + length calls
    → (l : Label) → serve_all s p k a m calls ≡ Some l → l.place ≡ p
unfolding serve_all
place-taken s b rest p k a m [] h i l q = absurd (off h i)
  where
    off : k ≤ p → p < k + 0 → ⊥
    off h i = omega arith
place-taken s b rest p k a m (c ∷ cs) h i l q =
    by-test (eqb p k) (λ t. here t)
    (λ f. place-taken s b rest p (suc k) c (m >>= serve s (break_at s p k) k a c) cs (above (eqb-false p k f) h) (inside i) l q)
  where
    here : eqb p k ≡ true → l.place ≡ p
    here t = place-stays s p (suc k) c (omega (arith, eqb-true p k t)) (m >>= serve s (break_at s p k) k a c) cs (λ n e. left n e) l q
      where
        left : (n : Label) → (m >>= serve s (break_at s p k) k a c) ≡ Some n → n.place ≡ p
        left n e =
            let y = bound m _ n e in
            let d : break_at s p k ≡ Some b = rw (t, rest) refl in
            sym (serve-place s (Some b) k a c y.0 n (subst (λ (o : Option Break). serve s o k a c y.0 ≡ Some n) d y.2)) ∙ sym (eqb-true p k t)

    above : (p ≡ k → ⊥) → k ≤ p → k < p
    above q h = ⊎_elim (λ r. absurd (q (sym r))) (λ l. l) (eq-or-lt_of_le h)

    inside : p < k + suc (length cs) → p < suc k + length cs
    inside i = omega arith

-- without a break no call is later, and no more is paid
none-cheaper : (s : Sheet) (p k a : ℕ) → 0 < k → (x y : Option Label) → NoDearer x y → (calls : List ℕ) → NoDearer (serve_all s 0 k a x calls) (serve_all s p k a y calls)
unfolding serve_all
none-cheaper s p k a h x y N [] = N
none-cheaper s p k a h x y N (c ∷ cs) =
    none-cheaper s p (suc k) c (up h) (x >>= serve s (break_at s 0 k) k a c) (y >>= serve s (break_at s p k) k a c)
    (subst (λ (o : Option Break). NoDearer (x >>= serve s o k a c) (y >>= serve s (break_at s p k) k a c)) (sym (free h)) (serve-cheaper s (break_at s p k) k a c x y N)) cs
  where
    up : 0 < k → 0 < suc k
    up h = omega arith

    free : 0 < k → break_at s 0 k ≡ None
    free h = rw (ne_eqb 0 k (λ e. off e)) refl
      where
        off : 0 ≡ k → ⊥
        off e = omega arith

module _ (s : Sheet) (calls : List ℕ) where
  -- the totals with a place, and that the run is allowed with it
  pub ride-at : (p : ℕ) (t : Totals) → ride_at s calls p ≡ Some t
      → (ride s (with s calls p) ≡ Some t) × (allowed s t ≡ true) × (placed s.head.rest p (length calls) t.duration ≡ true)
  unfolding ride_at
  ride-at p t q =
      let y = bound (ride s (with s calls p)) _ t q in
      let g = granted (allowed s y.0 && placed s.head.rest p (length calls) y.0.duration) y.0 t y.2 in
      let b = both (allowed s y.0) _ g.0 in
      subst (λ (u : Totals). (ride s (with s calls p) ≡ Some u) × (allowed s u ≡ true) × (placed s.head.rest p (length calls) u.duration ≡ true)) g.1 (y.1, b.0, b.1)

  pub at-ride : (p : ℕ) (t : Totals) → ride s (with s calls p) ≡ Some t → allowed s t ≡ true → placed s.head.rest p (length calls) t.duration ≡ true → ride_at s calls p ≡ Some t
  unfolding ride_at
  at-ride p t q a b = rw (q, a, b) refl

  -- a place that the break may have is one of the run's, and its label names it
  inside : (p d : ℕ) → placed s.head.rest p (length calls) d ≡ true → p ≤ length calls
  unfolding placed
  inside p d h = go s.head.rest refl
    where
      go : (o : Option Break) → s.head.rest ≡ o → p ≤ length calls
      go None e = let z = eqb-true p 0 (subst (λ (o : Option Break). placed o p (length calls) d ≡ true) e h) in omega arith
      go (Some b) e = at p (subst (λ (o : Option Break). placed o p (length calls) d ≡ true) e h)
        where
          at : (p : ℕ) → placed (Some b) p (length calls) d ≡ true → p ≤ length calls
          at zero h = omega arith
          at (suc k) h = leb-true (suc k) (length calls) h

  label-place : (p d : ℕ) (l : Label) → label_of s calls p ≡ Some l → placed s.head.rest p (length calls) d ≡ true → l.place ≡ p
  unfolding placed
  label-place p d l q h = go s.head.rest refl
    where
      free : p ≡ 0 → l.place ≡ p
      free z = unbroken s calls l (ap (label_of s calls) (sym z) ∙ q) ∙ sym z

      go : (o : Option Break) → s.head.rest ≡ o → l.place ≡ p
      go None e = free (eqb-true p 0 (subst (λ (o : Option Break). placed o p (length calls) d ≡ true) e h))
      go (Some b) e = at p refl
        where
          at : (k : ℕ) → p ≡ k → l.place ≡ p
          at zero z = free z
          at (suc k) z = place-taken s b e p 1 0 (Some start) calls (omega (arith, z)) (omega (arith, inside p d h)) l q

  pub own-place : (p : ℕ) (t : Totals) → ride_at s calls p ≡ Some t → t.place ≡ p
  own-place p t q =
      let r = ride-at p t q in
      let y = ridden s calls p t r.0 in
      let x = home-has s calls y.0 t y.2 in
      sym (ap (λ (u : Totals). u.place) x.4) ∙ label-place p t.duration y.0 y.1 r.2

  -- ---- the placement

  -- its answer is that of its own place
  pub least_at : (t : Totals) → least_ride s calls ≡ Some t → ride_at s calls t.place ≡ Some t
  unfolding least_ride
  least_at t q = picked-one (ride_at s calls) (λ u. ride_at s calls u.place ≡ Some u) own (ride_at s calls 0) (own 0) 1 (length calls) t q
    where
      own : (p : ℕ) (u : Totals) → ride_at s calls p ≡ Some u → ride_at s calls u.place ≡ Some u
      own p u e = ap (ride_at s calls) (own-place p u e) ∙ e

  pub least-own : (t : Totals) → least_ride s calls ≡ Some t → Own s calls t
  least-own t q = let r = ride-at t.place t (least_at t q) in (r.0, r.2)

  -- it has one wherever some place is allowed, and that is no worse than any: least pay, then the earliest return, then the first call
  pub least_first : (p : ℕ) (t : Totals) → ride_at s calls p ≡ Some t → (u : Totals) × (least_ride s calls ≡ Some u) × AtMost u t
  unfolding least_ride
  least_first p t q = at p refl
    where
      at : (k : ℕ) → p ≡ k → (u : Totals) × (least_ride s calls ≡ Some u) × AtMost u t
      at zero z = picked-old (ride_at s calls) 1 (length calls) (ride_at s calls 0) t (ap (ride_at s calls) (sym z) ∙ q)
      at (suc k) z =
          picked-new (ride_at s calls) own-place 1 (length calls) (ride_at s calls 0) (λ x e. first x (own-place 0 x e)) p t (omega (arith, z))
          (omega (arith, inside p t.duration (ride-at p t q).2)) q
        where
          first : (x : Totals) → x.place ≡ 0 → x.place < 1
          first x e = omega arith

  -- without a break it pays no more and is home no later than with one
  none-less : (p : ℕ) (t u : Totals) → ride s (with s calls 0) ≡ Some t → ride s (with s calls p) ≡ Some u → (t.pay ≤ u.pay) × (t.duration ≤ u.duration)
  none-less p t u q r =
      let (l, e, f) = ridden s calls 0 t q in
      let (m, g, h) = ridden s calls p u r in
      let (_, _, b, w, x) = home-has s calls l t f in
      let (_, _, c, v, y) = home-has s calls m u h in
      let (n, i, j, k) = none-cheaper s p 1 0 (le_refl 1) (Some start) (Some start) (λ l k. (l, k, le_refl l.time, le_refl l.pay)) calls m g in
      let z = same (sym e ∙ i) in (
        less0 (ap (λ (a : Totals). a.pay) x) (ap (λ (a : Totals). a.pay) y) (ap (λ (a : Label). a.pay) z) k,
        less (ap (λ (a : Totals). a.duration) x) (ap (λ (a : Totals). a.duration) y) (ap (λ (a : Label). a.time) z) (ap (λ (a : Leg). a.travel) (same (sym w ∙ v))) j,
      )
    where
      less0 : {a b t u n : ℕ} → a ≡ t → b ≡ u → a ≡ n → n ≤ b → t ≤ u
      less0 e f g h = omega arith

      less : {a b t u n c d : ℕ} → a + c ≡ t → b + d ≡ u → a ≡ n → c ≡ d → n ≤ b → t ≤ u
      less e f g i h = omega arith

  -- no break is best wherever the run is allowed without one
  pub none-wins : (t : Totals) → ride_at s calls 0 ≡ Some t → least_ride s calls ≡ Some t
  none-wins t q =
      let (u, e, A) = least_first 0 t q in
      let a = least_at u e in
      let (p, d) = none-less u.place t u (ride-at 0 t q).0 (ride-at u.place u a).0 in
      let i = alike A.pays p in
      let z = no_place (own-place 0 t q) (A.goes i (alike (A.returns i) d)) in
      e ∙ sym (subst (λ (k : ℕ). ride_at s calls k ≡ Some u) z a) ∙ q
    where
      alike : {a b : ℕ} → a ≤ b → b ≤ a → a ≡ b
      alike h i = omega arith

      no_place : {a b : ℕ} → b ≡ 0 → a ≤ b → a ≡ 0
      no_place e h = omega arith
