-- Tests of natural numbers, as the floats' comparisons have them. Assumes nothing.
use Rattle.std.proofs.Common.{◌≡◌, ℕ, ◌*◌, ◌<◌, ◌≤◌, not, ◌||◌, eqb, ltb, leb, sym, ap, inl, inr, le_of_eq, le_of_lt, mul-le-mul_right, eq-or-lt_of_le, mul-lt-mul_of_pos_right, lt_of_not-le, ne_of_gt, not-le_of_lt, ltb-false, ltb-true, le-ltb, lt-ltb, eq-eqb, ne_eqb, eqb-true, le-leb, leb-false, leb-true}
use native.Mathlib.Nat.{eq_of_mul-eq-mul_right}
use borrow.Author.Tests.{lt-leb}
use Rattle.basics.proofs.TestLaws.{by-test, same_test}

-- below or equal is at most
pub or-leb : (a b : ℕ) → (ltb a b || eqb a b) ≡ leb a b
or-leb a b =
    by-test (leb a b)
    (λ e. elim (eq-or-lt_of_le (leb-true a b e)) [ inl p ↦ rw (e, le-ltb a b (le_of_eq (sym p)), eq-eqb a b p) | inr l ↦ rw (e, lt-ltb a b l) ])
    (λ e. let h = leb-false a b e in rw (e, le-ltb a b (le_of_lt h), ne_eqb a b (ne_of_gt h)))

-- not below is at least
pub not-ltb : (a b : ℕ) → not (ltb a b) ≡ leb b a
not-ltb a b = by-test (ltb a b) (λ e. rw e (sym (lt-leb b a (ltb-true a b e)))) (λ e. rw e (sym (le-leb b a (ltb-false a b e))))

pub eqb-turned : (a b : ℕ) → eqb a b ≡ eqb b a
eqb-turned a b = same_test (eqb a b) (eqb b a) (λ e. eq-eqb b a (sym (eqb-true a b e))) (λ e. eq-eqb a b (sym (eqb-true b a e)))

-- each is below where the other is
pub ltb_iff : (a b c d : ℕ) → (a < b → c < d) → (c < d → a < b) → ltb a b ≡ ltb c d
ltb_iff a b c d f g = same_test (ltb a b) (ltb c d) (λ e. lt-ltb c d (f (ltb-true a b e))) (λ e. lt-ltb a b (g (ltb-true c d e)))

-- the tests of multiples
pub ltb-scale : (a b k : ℕ) → 0 < k → ltb (a * k) (b * k) ≡ ltb a b
ltb-scale a b k K =
    same_test (ltb (a * k) (b * k)) (ltb a b)
    (λ t. lt-ltb a b (lt_of_not-le (λ (h : b ≤ a). not-le_of_lt (ltb-true (a * k) (b * k) t) (mul-le-mul_right k h))))
    (λ t. lt-ltb (a * k) (b * k) (mul-lt-mul_of_pos_right (ltb-true a b t) K))

pub eqb-scale : (a b k : ℕ) → 0 < k → eqb (a * k) (b * k) ≡ eqb a b
eqb-scale a b k K =
    same_test (eqb (a * k) (b * k)) (eqb a b) (λ t. eq-eqb a b (eq_of_mul-eq-mul_right k K a b (eqb-true (a * k) (b * k) t)))
    (λ t. eq-eqb (a * k) (b * k) (ap (λ (z : ℕ). z * k) (eqb-true a b t)))
