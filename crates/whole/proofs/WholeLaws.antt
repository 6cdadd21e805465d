-- The laws by which code on floats that are `fl n` is proved against definitions on natural numbers. A sum, a difference and a product of two such floats is `fl` of the sum, the difference
-- and the product of the numbers, also above the limit, where `fl` itself rounds. A comparison is that of the numbers. Assumes nothing.
use Rattle.std.proofs.Common.{◌≡◌, ℕ, ◌+◌, ◌-◌, ◌*◌, ◌≤◌, false, T, eqb, ltb, leb, pos, sym, refl, ◌∙◌, arith, le-ltb}
use mathlib.Core.Bool.{and-true}
use lib.Ieee as Ieee
use lib.Ieee.{Float, binary64, round, of_int}
use lib.Ieee.Fits.{of_int-fits}
use lib.Ieee.Back.{round_whole, whole_unique}
use Rattle.whole.proofs.Numbers.{or-leb}
use Rattle.whole.proofs.Fractions.{add-exact, sub-exact, mul-exact, lt-exact, eq-exact}
use Rattle.whole.specs.Whole.{limit, fl, Is}

pub fl-is : (n : ℕ) → n ≤ limit → Is (fl n) n
unfolding fl of_int
fl-is n h = round_whole binary64 false n h

pub fl-fits : (n : ℕ) → T (Ieee.fits binary64 (fl n))
unfolding fl
fl-fits n = of_int-fits binary64 (pos n)

pub fl-round : (n : ℕ) → fl n ≡ round binary64 false n 1
unfolding fl of_int
fl-round n = refl

-- a float that fits is `fl` of the number that it is
pub is-fl : (x : Float) (n : ℕ) → T (Ieee.fits binary64 x) → Is x n → n ≤ limit → x ≡ fl n
is-fl x n f h l = whole_unique binary64 x (fl n) false n f (fl-fits n) h (fl-is n l)

-- ---- the laws
module _ (a b : ℕ) (p : a ≤ limit) (q : b ≤ limit) where
  pub fl-add : Ieee.add binary64 (fl a) (fl b) ≡ fl (a + b)
  unfolding Ieee.sum
  fl-add = add-exact false false a b (fl a) (fl b) (fl-is a p) (fl-is b q) binary64 ∙ sym (fl-round (a + b))

  pub fl-sub : b ≤ a → Ieee.sub binary64 (fl a) (fl b) ≡ fl (a - b)
  unfolding Ieee.sum
  fl-sub h = sub-exact false false a b (fl a) (fl b) (fl-is a p) (fl-is b q) binary64 ∙ rw (le-ltb a b h) (sym (fl-round (a - b)))

  pub fl-mul : Ieee.mul binary64 (fl a) (fl b) ≡ fl (a * b)
  fl-mul = mul-exact false false a b (fl a) (fl b) (fl-is a p) (fl-is b q) binary64 ∙ sym (fl-round (a * b))

  pub fl-lt : Ieee.lt (fl a) (fl b) ≡ ltb a b
  fl-lt = lt-exact false false a b (fl a) (fl b) (fl-is a p) (fl-is b q)

  pub fl-eq : Ieee.eq (fl a) (fl b) ≡ eqb a b
  fl-eq = eq-exact false false a b (fl a) (fl b) (fl-is a p) (fl-is b q) ∙ and-true (eqb a b)

  pub fl-le : Ieee.le (fl a) (fl b) ≡ leb a b
  unfolding Ieee.le
  fl-le = rw (fl-lt, fl-eq) (or-leb a b)

-- the sum by the bound on the result
pub fl-sum : (a b : ℕ) → a + b ≤ limit → Ieee.add binary64 (fl a) (fl b) ≡ fl (a + b)
fl-sum a b h = fl-add a b (omega arith) (omega arith)
