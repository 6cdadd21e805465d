-- Of totals that are offered one after the other the best is kept: least pay, then the earliest return, then the first place. Assumes nothing.
use Prim.Native.Nat.{ℕ, zero, suc, ◌+◌, ◌≤◌, ◌<◌}
use native.Mathlib.Omega.{arith}
use native.Mathlib.Nat.{le_refl, le_trans, eq-or-lt_of_le}
use mathlib.Core.Path.{◌≡◌, refl, sym, ap, ◌∙◌}
use mathlib.Core.Logic.{◌⊎◌, inl, inr, ⊎_elim}
use mathlib.Core.Bool.{true, false}
use mathlib.Core.List.{map}
use Rattle.std.specs.Prelude.{Option, None, Some}
use lib.Dec.{ltb, eqb}
use borrow.Author.Tests.{ltb-true, ltb-false, eqb-true, eqb-false, eq-eqb}
use Rattle.basics.proofs.TestLaws.{by-test, not-both}
use Rattle.basics.proofs.OptionLaws.{same}
use Rattle.basics.specs.Lists.{count}
use Rattle.definitions.specs.Run.{Totals}
use Rattle.definitions.specs.Placement.{preferred, pick, pick_all}

-- ---- the order

-- u is no worse than t: by lateness pay, then by return, then by place
pub record AtMost (u t : Totals) : Type 0 where
  pub pays : u.pay ≤ t.pay
  pub returns : u.pay ≡ t.pay → u.duration ≤ t.duration
  pub goes : u.pay ≡ t.pay → u.duration ≡ t.duration → u.place ≤ t.place

at-most-same : (t : Totals) → AtMost t t
at-most-same t = record { pays = le_refl t.pay; returns = λ _. le_refl t.duration; goes = λ _ _. le_refl t.place }

at-most-trans : (u v t : Totals) → AtMost u v → AtMost v t → AtMost u t
at-most-trans u v t x y =
    record {
      pays = le_trans x.pays y.pays;
      returns = λ e. le_trans (x.returns (left e)) (y.returns (right e));
      goes = λ e d.
          let i = x.returns (left e) in
          let j = y.returns (right e) in
          le_trans (x.goes (left e) (omega arith)) (y.goes (right e) (omega arith));
    }
  where
    left : u.pay ≡ t.pay → u.pay ≡ v.pay
    left e = omega (arith, x.pays, y.pays)

    right : u.pay ≡ t.pay → v.pay ≡ t.pay
    right e = omega (arith, x.pays, y.pays)

module _ (new old : Totals) where
  preferred-less : preferred new old ≡ true → (new.pay < old.pay) ⊎ ((new.pay ≡ old.pay) × (new.duration < old.duration))
  preferred-less h =
      by-test (ltb new.pay old.pay) (λ t. inl (ltb-true new.pay old.pay t))
      (λ f. by-test (eqb new.pay old.pay) (λ t. inr (eqb-true new.pay old.pay t, ltb-true new.duration old.duration (rw (f, t) at h)))
      (λ g. not-both false (rw (f, g) at h) refl))

  preferred-at-most : preferred new old ≡ true → AtMost new old
  preferred-at-most h = ⊎_elim cheaper sooner (preferred-less h)
    where
      cheaper : new.pay < old.pay → AtMost new old
      cheaper i = record { pays = omega arith; returns = λ e. absurd (off e); goes = λ e d. absurd (off e) }
        where
          off : new.pay ≡ old.pay → ⊥
          off e = omega arith

      sooner : (new.pay ≡ old.pay) × (new.duration < old.duration) → AtMost new old
      sooner x = record { pays = same-le x.0; returns = λ e. less x.1; goes = λ e d. absurd (off x.1 d) }
        where
          same-le : new.pay ≡ old.pay → new.pay ≤ old.pay
          same-le e = omega arith

          less : new.duration < old.duration → new.duration ≤ old.duration
          less i = omega arith

          off : new.duration < old.duration → new.duration ≡ old.duration → ⊥
          off i d = omega arith

  -- one that is kept was there first
  kept-at-most : preferred new old ≡ false → old.place ≤ new.place → AtMost old new
  kept-at-most h p =
      by-test (ltb new.pay old.pay) (λ t. not-both true refl (rw t at h))
      (λ f. let i = ltb-false new.pay old.pay f in record {
        pays = i;
        returns = λ e. ltb-false new.duration old.duration (rw (f, eq-eqb new.pay old.pay (omega arith)) at h);
        goes = λ _ _. p;
      })

-- ---- the better of two

pick-old : (x : Totals) (n : Option Totals) → (v : Totals) × (pick (Some x) n ≡ Some v) × AtMost v x
pick-old x None = (x, refl, at-most-same x)
pick-old x (Some y) = by-test (preferred y x) (λ t. (y, rw t refl, preferred-at-most y x t)) (λ f. (x, rw f refl, at-most-same x))

pick-new : (o : Option Totals) (t : Totals) → ((x : Totals) → o ≡ Some x → x.place ≤ t.place) → (v : Totals) × (pick o (Some t) ≡ Some v) × AtMost v t
pick-new None t h = (t, refl, at-most-same t)
pick-new (Some x) t h = by-test (preferred t x) (λ p. (t, rw p refl, at-most-same t)) (λ f. (x, rw f refl, kept-at-most t x f (h x refl)))

pick-one : (o n : Option Totals) (v : Totals) → pick o n ≡ Some v → (o ≡ Some v) ⊎ (n ≡ Some v)
pick-one None n v q = inr q
pick-one (Some x) None v q = inl q
pick-one (Some x) (Some y) v q = by-test (preferred y x) (λ t. inr (rw t at q)) (λ f. inl (rw f at q))

-- ---- the best of the places from a on, n of them, and of what there was before

module _ (f : ℕ → Option Totals) where
  abbrev picked : Option Totals → ℕ → ℕ → Option Totals
  picked old a n = pick_all old (map f (count a n))

  -- it is one of them
  pub picked-one : (P : Totals → Type 0) → ((p : ℕ) (t : Totals) → f p ≡ Some t → P t) → (old : Option Totals) → ((x : Totals) → old ≡ Some x → P x)
      → (a n : ℕ) (u : Totals) → picked old a n ≡ Some u → P u
  picked-one P each old h a zero u e = h u e
  picked-one P each old h a (suc n) u e = picked-one P each (pick old (f a)) (λ x q. ⊎_elim (h x) (each a x) (pick-one old (f a) x q)) (suc a) n u e

  -- the best so far is no worse than what was kept
  pub picked-old : (a n : ℕ) (old : Option Totals) (t : Totals) → old ≡ Some t → (u : Totals) × (picked old a n ≡ Some u) × AtMost u t
  picked-old a zero old t e = (t, e, at-most-same t)
  picked-old a (suc n) old t e =
      let y = pick-old t (f a) in
      let z = picked-old (suc a) n (pick old (f a)) y.0 (ap (λ (o : Option Totals). pick o (f a)) e ∙ y.1) in
      (z.0, z.1, at-most-trans z.0 y.0 t z.2 y.2)

  module _ (own : (p : ℕ) (t : Totals) → f p ≡ Some t → t.place ≡ p) where
    -- nor than any of the places
    pub picked-new : (a n : ℕ) (old : Option Totals) → ((x : Totals) → old ≡ Some x → x.place < a) → (p : ℕ) (t : Totals) → a ≤ p → p < a + n → f p ≡ Some t
        → (u : Totals) × (picked old a n ≡ Some u) × AtMost u t
    picked-new a zero old B p t h i e = absurd (off h i)
      where
        off : a ≤ p → p < a + 0 → ⊥
        off h i = omega arith
    picked-new a (suc n) old B p t h i e =
        by-test (eqb p a) (λ q. here (eqb-true p a q)) (λ q. picked-new (suc a) n (pick old (f a)) next p t (above (eqb-false p a q) h) (inside i) e)
      where
        here : p ≡ a → (u : Totals) × (picked old a (suc n) ≡ Some u) × AtMost u t
        here q =
            let e' : f a ≡ Some t = ap f (sym q) ∙ e in
            let y = pick-new old t (λ x g. behind q (own p t e) (B x g)) in
            let z = picked-old (suc a) n (pick old (f a)) y.0 (ap (pick old) e' ∙ y.1) in
            (z.0, z.1, at-most-trans z.0 y.0 t z.2 y.2)
          where
            behind : {k : ℕ} → p ≡ a → t.place ≡ p → k < a → k ≤ t.place
            behind q r l = omega arith

        next : (x : Totals) → pick old (f a) ≡ Some x → x.place < suc a
        next x g = ⊎_elim (λ l. up (B x l)) (λ r. at (own a x r)) (pick-one old (f a) x g)
          where
            up : x.place < a → x.place < suc a
            up l = omega arith

            at : x.place ≡ a → x.place < suc a
            at r = omega arith

        inside : p < a + suc n → p < suc a + n
        inside i = omega arith

        above : (p ≡ a → ⊥) → a ≤ p → a < p
        above q h = ⊎_elim (λ r. absurd (q (sym r))) (λ l. l) (eq-or-lt_of_le h)
