-- Up to 2 ^ 53 in size the sums, differences and comparisons of integers as floats are those of the integers; a difference that is nothing is +0.0. Assumes nothing.
use Rattle.std.proofs.Common.{◌≡◌, ℕ, zero, suc, ◌+◌, ◌-◌, ◌<◌, ◌≤◌, true, false, not, ◌||◌, T, eqb, ltb, ℤ, pos, negsuc, ◌+ℤ◌, ◌-ℤ◌, neg_ℤ, nat_abs, sym, refl, ap, ◌∙◌, add-zero, lt_irrefl, arith, ltb-false, ltb-true, le-ltb, lt-ltb, ne_eqb, eqb-true}
use mathlib.Core.Bool.{and-true}
use lib.IntN.{sub_ℕ}
use lib.Signed.{lt_z, le_z}
use lib.Dec.{leb-suc-suc}
use lib.Ieee as Ieee
use lib.Ieee.{binary64, round, of_int}
use lib.Ieee.Exact.{HasValue}
use lib.Ieee.Back.{round_whole, whole_unique}
use lib.Ieee.Fits.{neg-fits, of_int-fits}
use Rattle.basics.proofs.TestLaws.{by-test}
use Rattle.whole.proofs.Fractions.{neg-at, add-exact, sub-exact, lt-exact, eq-exact}
use Rattle.whole.specs.Whole.{fl, limit}
use Rattle.whole.proofs.Numbers.{or-leb, eqb-turned}
use Rattle.whole.proofs.Integers.{sub-none, none-sub}
use Rattle.whole.specs.Signed.{flz, sign}

pub flz-pos : (n : ℕ) → flz (pos n) ≡ fl n
unfolding flz fl
flz-pos n = refl

flz-round : (z : ℤ) → flz z ≡ round binary64 (sign z) (nat_abs z) 1
unfolding flz of_int
flz-round (pos n) = refl
flz-round (negsuc n) = refl

pub flz-is : (z : ℤ) → nat_abs z ≤ limit → HasValue (flz z) (sign z) (nat_abs z) 1
flz-is z h = rw (flz-round z) (round_whole binary64 (sign z) (nat_abs z) h)

-- ---- sums by the signs
-- a - b, rounded
pub minus_is : (a b : ℕ) → Ieee.sum binary64 false a true b 1 ≡ flz (sub_ℕ a b)
unfolding Ieee.sum
minus_is a b =
    by-test (ltb a b) (λ e. let h = ltb-true a b e in let k : b - a ≡ suc (b - suc a) = omega arith in rw (e, k) (sym (flz-round (negsuc (b - suc a))))) (λ e. rw e (sym (flz-round (pos (a - b)))))

-- the sum does not turn on the order of the terms
minus-turned : (a b : ℕ) → Ieee.sum binary64 true b false a 1 ≡ Ieee.sum binary64 false a true b 1
unfolding Ieee.sum
minus-turned a b =
    by-test (ltb a b)
    (λ e. let h = ltb-true a b e in rw (e, le-ltb b a (omega arith)))
    (λ e. by-test (ltb b a) (λ k. rw (e, k)) (λ k. let h = ltb-false a b e in let l = ltb-false b a k in let z : b - a ≡ a - b = omega arith in rw (e, k, z)))

sum_is : (x y : ℤ) → Ieee.sum binary64 (sign x) (nat_abs x) (sign y) (nat_abs y) 1 ≡ flz (x +ℤ y)
unfolding Ieee.sum
sum_is (pos a) (pos b) = sym (flz-round (pos (a + b)))
sum_is (pos a) (negsuc b) = minus_is a (suc b)
sum_is (negsuc a) (pos b) = minus-turned b (suc a) ∙ minus_is b (suc a)
sum_is (negsuc a) (negsuc b) = let k : suc a + suc b ≡ suc (suc (a + b)) = omega arith in rw k (sym (flz-round (negsuc (suc (a + b)))))

pub flz-add : (x y : ℤ) → nat_abs x ≤ limit → nat_abs y ≤ limit → Ieee.add binary64 (flz x) (flz y) ≡ flz (x +ℤ y)
flz-add x y p q = add-exact (sign x) (sign y) (nat_abs x) (nat_abs y) (flz x) (flz y) (flz-is x p) (flz-is y q) binary64 ∙ sum_is x y

less-is : (x y : ℤ) → Ieee.sum binary64 (sign x) (nat_abs x) (not (sign y)) (nat_abs y) 1 ≡ flz (x -ℤ y)
unfolding Ieee.sum
less-is (pos a) (pos zero) = minus_is a 0 ∙ ap flz (sub-none a ∙ ap pos (sym (add-zero a)))
less-is (negsuc a) (pos zero) = rw (add-zero (suc a)) (sym (flz-round (negsuc a)) ∙ ap flz (sym (none-sub a)))
less-is x (pos (suc b)) = sum_is x (negsuc b)
less-is x (negsuc b) = sum_is x (pos (suc b))

pub flz-sub : (x y : ℤ) → nat_abs x ≤ limit → nat_abs y ≤ limit → Ieee.sub binary64 (flz x) (flz y) ≡ flz (x -ℤ y)
flz-sub x y p q = sub-exact (sign x) (sign y) (nat_abs x) (nat_abs y) (flz x) (flz y) (flz-is x p) (flz-is y q) binary64 ∙ less-is x y

-- ---- the negation of a number that is not 0; -0.0 is no `flz`
fits-z : (z : ℤ) → T (Ieee.fits binary64 (flz z))
unfolding flz
fits-z z = of_int-fits binary64 z

neg_of : (x y : ℤ) → not (sign x) ≡ sign y → nat_abs x ≡ nat_abs y → nat_abs x ≤ limit → Ieee.neg (flz x) ≡ flz y
neg_of x y s n h =
    whole_unique binary64 (Ieee.neg (flz x)) (flz y) (not (sign x)) (nat_abs x) (neg-fits binary64 (flz x) (fits-z x)) (fits-z y) (neg-at (flz x) (sign x) (nat_abs x) 1 (flz-is x h))
    (rw (s, n) (flz-is y (rw n at h)))

pub flz-neg : (z : ℤ) → 0 < nat_abs z → nat_abs z ≤ limit → Ieee.neg (flz z) ≡ flz (neg_ℤ z)
flz-neg (pos zero) p h = absurd (lt_irrefl 0 p)
flz-neg (pos (suc n)) p h = neg_of (pos (suc n)) (negsuc n) refl refl h
flz-neg (negsuc n) p h = neg_of (negsuc n) (pos (suc n)) refl refl h

-- ---- the order
below-is : (x y : ℤ) → Ieee.below (sign x) (nat_abs x) (sign y) (nat_abs y) ≡ lt_z x y
below-is (pos a) (pos b) = refl
below-is (pos a) (negsuc b) = refl
below-is (negsuc a) (pos b) = lt-ltb 0 (suc a + b) (omega arith)
below-is (negsuc a) (negsuc b) = leb-suc-suc (suc b) a

apart : (a b : ℕ) → a ≡ suc b → a ≡ 0 → ⊥
apart a b p q = omega arith

at-most-is : (x y : ℤ) → (Ieee.below (sign x) (nat_abs x) (sign y) (nat_abs y) || Ieee.level (sign x) (nat_abs x) (sign y) (nat_abs y)) ≡ le_z x y
at-most-is (pos a) (pos b) = rw (and-true (eqb a b)) (or-leb a b)
at-most-is (pos a) (negsuc b) = by-test (eqb a (suc b)) (λ e. rw (e, ne_eqb a 0 (apart a b (eqb-true a (suc b) e)))) (λ e. rw e)
at-most-is (negsuc a) (pos b) = rw (lt-ltb 0 (suc a + b) (omega arith))
at-most-is (negsuc a) (negsuc b) = rw (and-true (eqb (suc a) (suc b)), eqb-turned (suc a) (suc b)) (or-leb (suc b) (suc a) ∙ leb-suc-suc b a)

pub flz-lt : (x y : ℤ) → nat_abs x ≤ limit → nat_abs y ≤ limit → Ieee.lt (flz x) (flz y) ≡ lt_z x y
flz-lt x y p q = lt-exact (sign x) (sign y) (nat_abs x) (nat_abs y) (flz x) (flz y) (flz-is x p) (flz-is y q) ∙ below-is x y

pub flz-le : (x y : ℤ) → nat_abs x ≤ limit → nat_abs y ≤ limit → Ieee.le (flz x) (flz y) ≡ le_z x y
unfolding Ieee.le
flz-le x y p q =
    rw (lt-exact (sign x) (sign y) (nat_abs x) (nat_abs y) (flz x) (flz y) (flz-is x p) (flz-is y q), eq-exact (sign x) (sign y) (nat_abs x) (nat_abs y) (flz x) (flz y) (flz-is x p) (flz-is y q))
    (at-most-is x y)
