-- Integers as differences of natural numbers: `sub_ℕ a b` is a - b, and its sums and comparisons are those of the pairs. Assumes nothing.
use Rattle.std.proofs.Common.{◌≡◌, ℕ, zero, suc, ◌+◌, ◌-◌, ◌<◌, ◌≤◌, not, ltb, ℤ, pos, negsuc, ◌+ℤ◌, neg_ℤ, nat_abs, sym, refl, ap, ◌∙◌, zero-le, arith, ltb-false, ltb-true, le-ltb, lt-ltb}
use native.Mathlib.Nat.{sub-zero}
use lib.IntN.{sub_ℕ}
use lib.Signed.{lt_z, le_z}
use Rattle.basics.proofs.TestLaws.{by-test}
use Rattle.whole.proofs.Numbers.{not-ltb, ltb_iff}

pub sub-pos : (a b : ℕ) → b ≤ a → sub_ℕ a b ≡ pos (a - b)
sub-pos a b h = rw (le-ltb a b h)

pub sub-neg : (a b : ℕ) → a < b → sub_ℕ a b ≡ negsuc (b - suc a)
sub-neg a b h = rw (lt-ltb a b h)

pub sub-none : (a : ℕ) → sub_ℕ a 0 ≡ pos a
sub-none a = sub-pos a 0 zero-le ∙ ap pos (sub-zero a)

pub none-sub : (a : ℕ) → sub_ℕ 0 (suc a) ≡ negsuc a
none-sub a = sub-neg 0 (suc a) (omega arith) ∙ let k : suc a - 1 ≡ a = omega arith in ap negsuc k

-- one difference, one integer
pub subs : (a b c d : ℕ) → a + d ≡ c + b → sub_ℕ a b ≡ sub_ℕ c d
subs a b c d h =
    by-test (ltb a b)
    (λ e. let l = ltb-true a b e in let k : b - suc a ≡ d - suc c = omega arith in rw (e, k) (sym (sub-neg c d (omega arith))))
    (λ e. let l = ltb-false a b e in let k : a - b ≡ c - d = omega arith in rw (e, k) (sym (sub-pos c d (omega arith))))

pub sub-add : (a b c d : ℕ) → sub_ℕ a b +ℤ sub_ℕ c d ≡ sub_ℕ (a + c) (b + d)
sub-add a b c d =
    by-test (ltb a b)
    (λ e. let l = ltb-true a b e in
    by-test (ltb c d)
    (λ k. let h = ltb-true c d k in rw (e, k) (sym (none-sub (suc (b - suc a + (d - suc c)))) ∙ subs 0 (suc (suc (b - suc a + (d - suc c)))) (a + c) (b + d) (omega arith)))
    (λ k. let h = ltb-false c d k in rw (e, k) (subs (c - d) (suc (b - suc a)) (a + c) (b + d) (omega arith))))
    (λ e. let l = ltb-false a b e in
    by-test (ltb c d)
    (λ k. let h = ltb-true c d k in rw (e, k) (subs (a - b) (suc (d - suc c)) (a + c) (b + d) (omega arith)))
    (λ k. let h = ltb-false c d k in rw (e, k) (sym (sub-none (a - b + (c - d))) ∙ subs (a - b + (c - d)) 0 (a + c) (b + d) (omega arith))))

neg-pos : (n : ℕ) → neg_ℤ (pos n) ≡ sub_ℕ 0 n
neg-pos zero = refl
neg-pos (suc n) = sym (none-sub n)

pub neg-sub : (a b : ℕ) → neg_ℤ (sub_ℕ a b) ≡ sub_ℕ b a
neg-sub a b =
    by-test (ltb a b)
    (λ e. let l = ltb-true a b e in rw e (sym (sub-none (suc (b - suc a))) ∙ subs (suc (b - suc a)) 0 b a (omega arith)))
    (λ e. let l = ltb-false a b e in rw e (neg-pos (a - b) ∙ subs 0 (a - b) b a (omega arith)))

pub sub-lt : (a b c d : ℕ) → lt_z (sub_ℕ a b) (sub_ℕ c d) ≡ ltb (a + d) (c + b)
sub-lt a b c d =
    by-test (ltb a b)
    (λ e. let l = ltb-true a b e in
    by-test (ltb c d)
    (λ k. let h = ltb-true c d k in rw (e, k) (ltb_iff (d - suc c) (b - suc a) (a + d) (c + b) (λ u. omega arith) (λ u. omega arith)))
    (λ k. let h = ltb-false c d k in rw (e, k) (sym (lt-ltb (a + d) (c + b) (omega arith)))))
    (λ e. let l = ltb-false a b e in
    by-test (ltb c d)
    (λ k. let h = ltb-true c d k in rw (e, k) (sym (le-ltb (a + d) (c + b) (omega arith))))
    (λ k. let h = ltb-false c d k in rw (e, k) (ltb_iff (a - b) (c - d) (a + d) (c + b) (λ u. omega arith) (λ u. omega arith))))

pub le_not_lt : (x y : ℤ) → le_z x y ≡ not (lt_z y x)
le_not_lt (pos a) (pos b) = sym (not-ltb b a)
le_not_lt (pos a) (negsuc b) = refl
le_not_lt (negsuc a) (pos b) = refl
le_not_lt (negsuc a) (negsuc b) = sym (not-ltb a b)

-- the size stays within what bounds both
pub abs-sub : (a b l : ℕ) → a ≤ l → b ≤ l → nat_abs (sub_ℕ a b) ≤ l
abs-sub a b l p q = by-test (ltb a b) (λ e. let h = ltb-true a b e in rw e (omega arith)) (λ e. rw e (omega arith))
