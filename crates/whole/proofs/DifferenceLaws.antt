-- Differences as floats add and compare as the pairs of natural numbers do. Assumes nothing.
use Rattle.std.proofs.Common.{◌≡◌, ℕ, ◌+◌, ◌≤◌, false, not, ltb, leb, ap, ◌∙◌, zero-le, add-zero, add_comm}
use lib.IntN.{sub_ℕ}
use lib.Ieee as Ieee
use lib.Ieee.{binary64}
use Rattle.whole.proofs.Fractions.{sub-exact}
use Rattle.whole.specs.Whole.{fl, limit}
use Rattle.whole.proofs.WholeLaws.{fl-is}
use Rattle.whole.proofs.Numbers.{not-ltb}
use Rattle.whole.proofs.Integers.{sub-none, subs, sub-add, sub-lt, le_not_lt, abs-sub}
use Rattle.whole.specs.Signed.{flz}
use Rattle.whole.proofs.SignedLaws.{flz-pos, minus_is, flz-add, flz-lt, flz-le}
use Rattle.whole.specs.Difference.{diff}

-- one difference, one float
pub diff-same : (a b c d : ℕ) → a + d ≡ c + b → diff a b ≡ diff c d
unfolding diff
diff-same a b c d h = ap flz (subs a b c d h)

-- a difference from nothing, and of a number to itself, which is +0.0
pub diff-fl : (a : ℕ) → diff a 0 ≡ fl a
unfolding diff
diff-fl a = ap flz (sub-none a) ∙ flz-pos a

pub diff-none : (a : ℕ) → diff a a ≡ fl 0
diff-none a = diff-same a a 0 0 (add_comm a 0) ∙ diff-fl 0

pub fl-diff : (a b : ℕ) → a ≤ limit → b ≤ limit → Ieee.sub binary64 (fl a) (fl b) ≡ diff a b
unfolding diff
fl-diff a b p q = sub-exact false false a b (fl a) (fl b) (fl-is a p) (fl-is b q) binary64 ∙ minus_is a b

module _ (a b c d : ℕ) (p : a ≤ limit) (q : b ≤ limit) (r : c ≤ limit) (s : d ≤ limit) where
  pub diff-add : Ieee.add binary64 (diff a b) (diff c d) ≡ diff (a + c) (b + d)
  unfolding diff
  diff-add = flz-add (sub_ℕ a b) (sub_ℕ c d) (abs-sub a b limit p q) (abs-sub c d limit r s) ∙ ap flz (sub-add a b c d)

  pub diff-lt : Ieee.lt (diff a b) (diff c d) ≡ ltb (a + d) (c + b)
  unfolding diff
  diff-lt = flz-lt (sub_ℕ a b) (sub_ℕ c d) (abs-sub a b limit p q) (abs-sub c d limit r s) ∙ sub-lt a b c d

  pub diff-le : Ieee.le (diff a b) (diff c d) ≡ leb (a + d) (c + b)
  unfolding diff
  diff-le = flz-le (sub_ℕ a b) (sub_ℕ c d) (abs-sub a b limit p q) (abs-sub c d limit r s) ∙ le_not_lt (sub_ℕ a b) (sub_ℕ c d) ∙ ap not (sub-lt c d a b) ∙ not-ltb (c + b) (a + d)

-- a difference and a natural
module _ (a b c : ℕ) (p : a ≤ limit) (q : b ≤ limit) (r : c ≤ limit) where
  pub diff-add-fl : Ieee.add binary64 (diff a b) (fl c) ≡ diff (a + c) b
  diff-add-fl = rw (← diff-fl c) (diff-add a b c 0 p q r zero-le ∙ rw (add-zero b))

  pub diff-lt-fl : Ieee.lt (diff a b) (fl c) ≡ ltb a (c + b)
  diff-lt-fl = rw (← diff-fl c) (diff-lt a b c 0 p q r zero-le ∙ rw (add-zero a))

  pub fl-le-diff : Ieee.le (fl c) (diff a b) ≡ leb (c + b) a
  fl-le-diff = rw (← diff-fl c) (diff-le c 0 a b r zero-le p q ∙ rw (add-zero a))
