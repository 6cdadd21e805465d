-- A whole number, of either sign, is below the negation of a small number just where it is below 0, and below a whole number less a small one just where it is below the whole number.
-- Assumes nothing.
use Rattle.std.proofs.Common.{◌≡◌, ℕ, zero, suc, ◌+◌, ◌-◌, ◌*◌, ◌<◌, ◌≤◌, true, false, T, ltb, ℤ, pos, negsuc, nat_abs, sym, refl, ◌∙◌, subst, suc-le-suc, zero-le, mul-le-mul_right, zero-lt-suc, mul-pos, zero-mul, arith, lit≤, ltb-false, ltb-true, le-ltb, lt-ltb, le-leb}
use lib.Signed.{lt_z}
use lib.Ieee as Ieee
use lib.Ieee.{Float, nan, inf, fin, binary64, up, down, round}
use lib.Ieee.Fits.{down_pos}
use lib.Ieee.Exact.{HasValue}
use lib.Ieee.Scale.{round_same}
use lib.Ieee.Order.{round_mono}
use Rattle.basics.proofs.TestLaws.{by-test}
use Rattle.whole.proofs.Fractions.{one, sub_at, lt_at, neg-round}
use Rattle.whole.specs.Whole.{fl, limit}
use Rattle.whole.proofs.WholeLaws.{fl-is, fl-round, fl-le}
use Rattle.whole.specs.Order.{nonneg}
use Rattle.whole.proofs.OrderLaws.{of_le, le-through, le-nlt, lt-through}
use Rattle.whole.proofs.Monotone.{round-nonneg, fl-nonneg, exact-neg}
use Rattle.whole.specs.Signed.{flz}
use Rattle.whole.proofs.SignedLaws.{flz-pos, flz-is, flz-lt}
use Rattle.whole.specs.Half.{half, Small, halves}

half-round : round binary64 false 1 2 ≡ half
unfolding round
half-round = refl

-- a fraction up to one half rounds to such a value
pub round-small : (x d : ℕ) → 0 < d → x * 2 ≤ d → Small (round binary64 false x d)
round-small x d D h = record {
  clear = round-nonneg binary64 x d;
  low = rw (← half-round) (round_mono binary64 x d 1 2 D (zero-lt-suc 1) (omega arith));
}

-- ---- below its negation
half-cross : (m : ℕ) (e : ℤ) → Small (fin false m e) → m * up e * 2 ≤ down e
half-cross m e s = let h = of_le m 1 e (negsuc 0) s.low in omega arith

-- a size up to one half is below every whole number from 1 on
under : (x d k : ℕ) → x * 2 ≤ d → 0 < d → x * 1 < suc k * d
under x d k h D = let l : 1 * d ≤ suc k * d = mul-le-mul_right d (suc-le-suc zero-le) in omega arith

neg-test : (z : ℤ) (m : ℕ) (e : ℤ) → Small (fin false m e) → nat_abs z ≤ limit → Ieee.lt (flz z) (fin true m e) ≡ lt_z z (pos 0)
neg-test (pos a) m e s h = lt_at false true a 1 (m * up e) (down e) one (down_pos e) (flz (pos a)) (fin true m e) (flz-is (pos a) h) (refl, refl) ∙ sym (le-ltb a 0 zero-le)
neg-test (negsuc k) m e s h =
    lt_at true true (suc k) 1 (m * up e) (down e) one (down_pos e) (flz (negsuc k)) (fin true m e) (flz-is (negsuc k) h) (refl, refl)
    ∙ lt-ltb (m * up e * 1) (suc k * down e) (under (m * up e) (down e) k (half-cross m e s) (down_pos e))

pub below-neg : (z : ℤ) (g : Float) → Small g → nat_abs z ≤ limit → Ieee.lt (flz z) (Ieee.neg g) ≡ lt_z z (pos 0)
unfolding Ieee.neg Ieee.le
below-neg z nan s h = absurd s.clear
below-neg z (inf true) s h = absurd s.clear
below-neg z (inf false) s h = absurd s.low
below-neg z (fin true m e) s h = absurd s.clear
below-neg z (fin false m e) s h = neg-test z m e s h

-- ---- below a whole number less it
-- less than nothing: its negation
from-none : (z : ℤ) (m : ℕ) (e : ℤ) → Small (fin false m e) → nat_abs z ≤ limit → Ieee.lt (flz z) (Ieee.sub binary64 (fl 0) (fin false m e)) ≡ lt_z z (pos 0)
unfolding Ieee.sum
from-none z m e s h =
    let x = m * up e * 1 in
    let d = 1 * down e in
    let D : 0 < d = mul-pos one (down_pos e) in
    let c = half-cross m e s in
    rw (sub_at false false 0 1 (m * up e) (down e) one (down_pos e) binary64 (fl 0) (fin false m e) (fl-is 0 zero-le) (refl, refl))
    (by-test (ltb (0 * down e) x)
    (λ t. rw (t, ← neg-round binary64 false (x - 0 * down e) d) (below-neg z (round binary64 false (x - 0 * down e) d) (round-small (x - 0 * down e) d D (omega arith)) h))
    (λ t. let l = ltb-false (0 * down e) x t in let k : 0 * down e - x ≡ 0 = omega arith in
    rw (t, k, round_same binary64 false 0 d 0 1 D one (zero-mul 1 ∙ sym (zero-mul d)), ← fl-round 0, ← flz-pos 0) (flz-lt z (pos 0) h zero-le)))

-- otherwise the rounded rest lies between the number less one half, which is a value of the format, and the number
abbrev rest : ℕ → ℕ → ℕ → Float
rest t x d = round binary64 false (suc t * d - x * 1) (1 * d)

module _ (t x d : ℕ) (c : x * 2 ≤ d) (D : 0 < d) (h : suc t ≤ halves) where
  rest-cross : (suc t * d - x * 1) + x ≡ t * d + d
  rest-cross = omega arith

  rest-low : T (Ieee.le (round binary64 false (2 * t + 1) 2) (rest t x d))
  rest-low = round_mono binary64 (2 * t + 1) 2 (suc t * d - x * 1) (1 * d) (zero-lt-suc 1) (mul-pos one D) (omega (arith, rest-cross))

  rest-high : T (Ieee.le (rest t x d) (fl (suc t)))
  rest-high = rw (fl-round (suc t)) (round_mono binary64 (suc t * d - x * 1) (1 * d) (suc t) 1 (mul-pos one D) one (omega (arith, rest-cross)))

  below_rest : (a : ℕ) → a ≤ limit → Ieee.lt (fl a) (rest t x d) ≡ ltb a (suc t)
  below_rest a k =
      by-test (ltb a (suc t))
      (λ e. let l = ltb-true a (suc t) e in
      rw e
      (lt-through (fl a) (round binary64 false (2 * t + 1) 2) (rest t x d) (fl-nonneg a) (round-nonneg binary64 (2 * t + 1) 2) (round-nonneg binary64 (suc t * d - x * 1) (1 * d))
      (lt_at false false a 1 (2 * t + 1) 2 one (zero-lt-suc 1) (fl a) (round binary64 false (2 * t + 1) 2) (fl-is a k) (exact-neg binary64 (2 * t + 1) 0 (omega arith) (lit≤ tt))
      ∙ lt-ltb (a * 2) ((2 * t + 1) * 1) (omega arith))
      rest-low))
      (λ e. let l = ltb-false a (suc t) e in
      rw e
      (le-nlt (fl a) (rest t x d) (fl-nonneg a) (round-nonneg binary64 (suc t * d - x * 1) (1 * d))
      (le-through (rest t x d) (fl (suc t)) (fl a) (round-nonneg binary64 (suc t * d - x * 1) (1 * d)) (fl-nonneg (suc t)) (fl-nonneg a) rest-high
      (subst T (sym (fl-le (suc t) a (omega arith) k ∙ le-leb (suc t) a l)) tt))))

-- what is below 0 is below every float with a clear sign
neg-below : (x y : Float) (k : ℕ) → HasValue x true (suc k) 1 → T (nonneg y) → Ieee.lt x y ≡ true
unfolding Ieee.lt
neg-below x nan k p q = absurd q
neg-below nan (inf _) k p q = elim p [ ]
neg-below (inf _) (inf _) k p q = elim p [ ]
neg-below nan (fin _ n d) k p q = elim p [ ]
neg-below (inf _) (fin _ n d) k p q = elim p [ ]
neg-below (fin s m e) (inf true) k p q = absurd q
neg-below (fin s m e) (inf false) k p q = refl
neg-below (fin s m e) (fin true n d) k p q = absurd q
neg-below (fin s m e) (fin false n d) k p q =
    let l = mul-pos (zero-lt-suc k) (down_pos d) in
    lt_at true false (suc k) 1 (n * up d) (down d) one (down_pos d) (fin s m e) (fin false n d) p (refl, refl) ∙ lt-ltb 0 (suc k * down d + n * up d * 1) (omega arith)

module _ (t m : ℕ) (e : ℤ) (s : Small (fin false m e)) (h : suc t ≤ halves) where
  rest-is : Ieee.sub binary64 (fl (suc t)) (fin false m e) ≡ rest t (m * up e) (down e)
  unfolding Ieee.sum
  rest-is =
      let c = half-cross m e s in
      sub_at false false (suc t) 1 (m * up e) (down e) one (down_pos e) binary64 (fl (suc t)) (fin false m e) (fl-is (suc t) (omega arith)) (refl, refl)
      ∙ rw (le-ltb (suc t * down e) (m * up e * 1) (omega arith))

  from_some : (z : ℤ) → nat_abs z ≤ limit → Ieee.lt (flz z) (Ieee.sub binary64 (fl (suc t)) (fin false m e)) ≡ lt_z z (pos (suc t))
  from_some (pos a) k = rw (rest-is, flz-pos a) (below_rest t (m * up e) (down e) (half-cross m e s) (down_pos e) h a k)
  from_some (negsuc j) k =
      rw rest-is (neg-below (flz (negsuc j)) (rest t (m * up e) (down e)) j (flz-is (negsuc j) k) (round-nonneg binary64 (suc t * down e - m * up e * 1) (1 * down e)))

pub below_less : (z : ℤ) (s : ℕ) (g : Float) → Small g → nat_abs z ≤ limit → s ≤ halves → Ieee.lt (flz z) (Ieee.sub binary64 (fl s) g) ≡ lt_z z (pos s)
unfolding Ieee.le
below_less z s nan p h k = absurd p.clear
below_less z s (inf true) p h k = absurd p.clear
below_less z s (inf false) p h k = absurd p.low
below_less z s (fin true m e) p h k = absurd p.clear
below_less z zero (fin false m e) p h k = from-none z m e p h
below_less z (suc t) (fin false m e) p h k = from_some t m e p k z h
