-- On tables of whole numbers the largest distance is whole, and legs that are found as long both ways are. Assumes nothing.
use Prim.Native.Nat.{ℕ, zero-le, ◌+◌, ◌≤◌, max}
use native.Mathlib.Omega.{arith}
use mathlib.Core.Path.{◌≡◌, refl, sym, ap₂, subst, ◌∙◌}
use mathlib.Core.Bool.{Bool, true, false, cond, false≢true}
use mathlib.Core.List.{List, [], ◌∷◌, map}
use lib.Dec.{ltb, eqb}
use borrow.Author.Tests.{ltb-false, eqb-true}
use lib.Ieee as Ieee
use lib.Ieee.{Float, binary64}
use Rattle.basics.proofs.TestLaws.{by-test, both, not-true}
use Rattle.basics.specs.Lists.{All}
use Rattle.bounds.specs.Sized.{Small}
use Rattle.whole.specs.Whole.{fl, limit}
use Rattle.whole.specs.Larger.{larger_f}
use Rattle.whole.proofs.LargerLaws.{larger-fl}
use Rattle.whole.proofs.DifferenceLaws.{diff-fl, fl-diff, diff-lt, diff-lt-fl}
use Rattle.improve_base.specs.Gain.{largest_f, largest_by_four_f, scale_f, legs_equal_f, all_equal_f, symmetric_f}

-- ---- the largest distance

-- a distance that a sheet may have, held in a float
pub record Held (x : Float) : Type 0 where
  pub number : ℕ
  pub small : Small number
  pub is : x ≡ fl number

held : (n : ℕ) → Small n → Held (fl n)
held n h = record { number = n; small = h; is = refl }

larger-held : {x y : Float} → Held x → Held y → Held (larger_f x y)
larger-held {x} {y} p q =
    let a = p.number in
    let b = q.number in
    let h = p.small in
    let k = q.small in
    record { number = max a b; small = omega arith; is = ap₂ larger_f p.is q.is ∙ larger-fl a b (omega arith) (omega arith) }

largest-held : (x : Float) (l : List ℕ) → Held x → All Small l → Held (largest_f x (map fl l))
unfolding largest_f
largest-held x [] p h = p
largest-held x (n ∷ l) p h = largest-held (larger_f x (fl n)) l (larger-held p (held n h.0)) h.1

four-held : (a b c d : Float) (l : List ℕ) → Held a → Held b → Held c → Held d → All Small l → Held (largest_by_four_f a b c d (map fl l))
unfolding largest_by_four_f
four-held a b c d [] p q r s h = larger-held (larger-held p q) (larger-held r s)
four-held a b c d (w ∷ []) p q r s h = largest-held _ (w ∷ []) (larger-held (larger-held p q) (larger-held r s)) h
four-held a b c d (w ∷ x ∷ []) p q r s h = largest-held _ (w ∷ x ∷ []) (larger-held (larger-held p q) (larger-held r s)) h
four-held a b c d (w ∷ x ∷ y ∷ []) p q r s h = largest-held _ (w ∷ x ∷ y ∷ []) (larger-held (larger-held p q) (larger-held r s)) h
four-held a b c d (w ∷ x ∷ y ∷ z ∷ l) p q r s h =
    four-held (larger_f a (fl w)) (larger_f b (fl x)) (larger_f c (fl y)) (larger_f d (fl z)) l (larger-held p (held w h.0)) (larger-held q (held x h.1.0)) (larger-held r (held y h.1.1.0)) (larger-held s (held z h.1.1.1.0)) h.1.1.1.1

pub scale-held : (l : List ℕ) → All Small l → Held (scale_f (map fl l))
unfolding scale_f
scale-held l h = let none = held 0 zero-le in four-held (fl 0) (fl 0) (fl 0) (fl 0) l none none none none h

-- ---- the way back

-- a difference that is neither above nor below 0 is none
equal-same : (a b : ℕ) → a ≤ limit → b ≤ limit → legs_equal_f (fl a) (fl b) ≡ true → a ≡ b
unfolding legs_equal_f
equal-same a b p q e =
    let d = fl-diff a b p q in
    let up : Ieee.lt (fl 0) (Ieee.sub binary64 (fl a) (fl b)) ≡ ltb (0 + b) (a + 0) = rw (d, ← diff-fl 0) (diff-lt 0 0 a b zero-le zero-le p q) in
    let down : Ieee.lt (Ieee.sub binary64 (fl a) (fl b)) (fl 0) ≡ ltb a (0 + b) = rw d (diff-lt-fl a b 0 p q zero-le) in
    let B = both _ _ e in
    let u = ltb-false (0 + b) (a + 0) (sym up ∙ not-true _ B.0) in
    let v = ltb-false a (0 + b) (sym down ∙ not-true _ B.1) in
    omega arith

-- one of these calls
abbrev pub called : List ℕ → ℕ → Bool
called [] a = false
called (c ∷ cs) a = cond (eqb c a) true (called cs a)

module _ (leg : ℕ → ℕ → Float) (Place : ℕ → Type 0) (far : ℕ → ℕ → ℕ) (small : (a b : ℕ) → far a b ≤ limit)
    (exact : (a b : ℕ) → Place a → Place b → leg a b ≡ fl (far a b)) where
  -- the legs between one of them and the others
  row_same : (a : ℕ) (cs : List ℕ) → Place a → All Place cs → all_equal_f leg a cs ≡ true → (b : ℕ) → called cs b ≡ true → far a b ≡ far b a
  row_same a [] p ps e b m = absurd (false≢true m)
  row_same a (c ∷ cs) p ps e b m =
      let B = both (legs_equal_f (leg a c) (leg c a)) _ e in
      by-test (eqb c b)
      (λ t. let here = equal-same (far a c) (far c a) (small a c) (small c a) (rw (exact a c p ps.0, exact c a ps.0 p) at B.0) in
      subst (λ (d : ℕ). far a d ≡ far d a) (eqb-true c b t) here)
      (λ f. row_same a cs p ps.1 B.1 b (rw f at m))

  -- those between any two
  pub symmetric-same : (cs : List ℕ) → All Place cs → symmetric_f leg cs ≡ true → (a b : ℕ) → called cs a ≡ true → called cs b ≡ true → far a b ≡ far b a
  unfolding symmetric_f
  symmetric-same [] ps e a b m n = absurd (false≢true m)
  symmetric-same (c ∷ cs) ps e a b m n =
      let B = both (all_equal_f leg c cs) _ e in
      let row = row_same c cs ps.0 ps.1 B.0 in
      by-test (eqb c a)
      (λ t. by-test (eqb c b)
      (λ u. let same = sym (eqb-true c a t) ∙ eqb-true c b u in rw same)
      (λ f. subst (λ (d : ℕ). far d b ≡ far b d) (eqb-true c a t) (row b (rw f at n))))
      (λ f. by-test (eqb c b)
      (λ u. subst (λ (d : ℕ). far a d ≡ far d a) (eqb-true c b u) (sym (row a (rw f at m))))
      (λ g. symmetric-same cs ps.1 B.1 a b (rw f at m) (rw g at n)))
