-- For a whole largest distance up to 10,000,000 the least gain that counts is at most one half. So the improvers' tests against it decide as the plain comparison of whole numbers does.
-- Assumes nothing.
use Rattle.std.proofs.Common.{◌≡◌, ℕ, ◌+◌, ◌*◌, ◌≤◌, false, T, ltb, sym, refl, ap, ◌∙◌, add-zero, mul-le-mul_left, mul-pos, zero-add, arith, lit≤}
use lib.IntN.{sub_ℕ}
use lib.Signed.{lt_z}
use lib.Ieee as Ieee
use lib.Ieee.{binary64, round, of_int}
use lib.Ieee.Positive.{num, den, den_pos, positive, own_value}
use Rattle.whole.proofs.Fractions.{one, mul_at}
use Rattle.whole.specs.Whole.{fl, limit}
use Rattle.whole.proofs.WholeLaws.{fl-is}
use Rattle.whole.specs.Difference.{diff}
use Rattle.whole.proofs.Integers.{sub-none, sub-lt, abs-sub}
use Rattle.whole.specs.Half.{Small, halves}
use Rattle.whole.proofs.HalfLaws.{round-small, below-neg, below_less}
use Rattle.whole.specs.Gain.{share, gain_floor_f, farthest}

-- without distance there is no floor
pub floor-zero : gain_floor_f (fl 0) ≡ fl 0
unfolding gain_floor_f fl of_int Ieee.mul Ieee.of_bits
floor-zero = refl

-- ---- it is at most one half
share-positive : T (positive share)
unfolding Ieee.of_bits
share-positive = tt

share-low : num share * farthest * 2 ≤ den share
unfolding Ieee.of_bits
share-low = lit≤ tt

module _ (n : ℕ) (h : n ≤ farthest) where
  floor-round : gain_floor_f (fl n) ≡ round binary64 false (num share * n) (den share * 1)
  unfolding gain_floor_f
  floor-round = mul_at false false (num share) (den share) n 1 (den_pos share) one binary64 share (fl n) (own_value share share-positive) (fl-is n (omega arith))

  pub floor-small : Small (gain_floor_f (fl n))
  floor-small =
      let m : num share * n ≤ num share * farthest = mul-le-mul_left (num share) h in
      rw floor-round (round-small (num share * n) (den share * 1) (mul-pos (den_pos share) one) (omega (arith, share-low)))

-- ---- the tests, of a difference of whole numbers
module _ (n a b : ℕ) (h : n ≤ farthest) (p : a ≤ limit) (q : b ≤ limit) where
  -- a reversal gains
  pub reversal-test : Ieee.lt (diff a b) (Ieee.neg (gain_floor_f (fl n))) ≡ ltb a b
  unfolding diff
  reversal-test = below-neg (sub_ℕ a b) (gain_floor_f (fl n)) (floor-small n h) (abs-sub a b limit p q) ∙ sub-lt a b 0 0 ∙ rw (add-zero a, zero-add b)

  -- what is added stays below what is saved
  pub elimination-test : (s : ℕ) → s ≤ halves → Ieee.lt (diff a b) (Ieee.sub binary64 (fl s) (gain_floor_f (fl n))) ≡ ltb a (s + b)
  unfolding diff
  elimination-test s k =
      below_less (sub_ℕ a b) s (gain_floor_f (fl n)) (floor-small n h) (abs-sub a b limit p q) k ∙ ap (lt_z (sub_ℕ a b)) (sym (sub-none s)) ∙ sub-lt a b s 0 ∙ rw (add-zero a)
