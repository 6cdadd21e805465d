-- Constants, bit patterns and casts of whole numbers: a literal of code is the value of its bit pattern. Assumes nothing.
use Rattle.std.proofs.Common.{◌≡◌, ℕ, ◌+◌, ◌^◌, ◌≤◌, true, false, not, T, pos, sym, refl, ap, ◌∙◌, lt_of_le_of_lt, arith, lit<, le→leb, lt-ltb}
use mathlib.Core.Bool.{false≢true}
use lib.Ieee as Ieee
use lib.Ieee.{Float, nan, inf, fin, binary64, of_int}
use lib.Ieee.Back.{unsigned_back}
use lib.Ieee.Bits.{of_bits-to_bits}
use Rattle.whole.proofs.Fractions.{lt-exact}
use Rattle.whole.specs.Whole.{fl, limit, Is}
use Rattle.whole.proofs.WholeLaws.{fl-is}

-- ---- constants
pub fl-zero : fl 0 ≡ Ieee.of_bits binary64 0
unfolding fl of_int Ieee.of_bits
fl-zero = refl

pub fl-one : fl 1 ≡ Ieee.of_bits binary64 0x3ff0_0000_0000_0000
unfolding fl of_int Ieee.of_bits
fl-one = refl

-- ---- the cast from an integer, and back
pub fl-in : (n : ℕ) → n ≤ limit → T (Ieee.in_float binary64 (pos n))
unfolding Ieee.in_float
fl-in n h = le→leb n limit h

pub fl-back : (n : ℕ) → n ≤ limit → Ieee.to_unsigned 64 (fl n) ≡ n
unfolding fl
fl-back n h = (unsigned_back binary64 64 n (fl-in n h) (lt_of_le_of_lt h (lit< tt))).1

-- ---- no NaN
is-not-nan : (x : Float) (n : ℕ) → Is x n → T (not (Ieee.is_nan x))
unfolding Ieee.is_nan
is-not-nan nan n h = elim h [ ]
is-not-nan (inf _) n h = elim h [ ]
is-not-nan (fin s m e) n h = tt

pub fl-not-nan : (n : ℕ) → n ≤ limit → T (not (Ieee.is_nan (fl n)))
fl-not-nan n h = is-not-nan (fl n) n (fl-is n h)

-- what is below something is no NaN
pub lt-not-nan : (x y : Float) → Ieee.lt x y ≡ true → T (not (Ieee.is_nan x))
unfolding Ieee.is_nan Ieee.lt
lt-not-nan nan y e = absurd (false≢true e)
lt-not-nan (inf s) y e = tt
lt-not-nan (fin s m e) y h = tt

-- two values of the format with one bit pattern are one value, the sign of a zero too
pub bits-inj : (x y : Float) → T (Ieee.fits binary64 x) → T (Ieee.fits binary64 y) → Ieee.to_bits binary64 x ≡ Ieee.to_bits binary64 y → x ≡ y
bits-inj x y p q e = sym (of_bits-to_bits binary64 x p) ∙ ap (Ieee.of_bits binary64) e ∙ of_bits-to_bits binary64 y q

-- ---- the range of the cast to 64 bits: -1 lies below every whole number, and 2 ^ 64 above
pub minus-one-lt : (n : ℕ) → n ≤ limit → Ieee.lt (fin true 1 (pos 0)) (fl n) ≡ true
minus-one-lt n h = lt-exact true false 1 n (fin true 1 (pos 0)) (fl n) (refl, refl) (fl-is n h) ∙ lt-ltb 0 (1 + n) (omega arith)

pub lt-top : (n : ℕ) → n ≤ limit → Ieee.lt (fl n) (fin false 1 (pos 64)) ≡ true
lt-top n h = lt-exact false false n (2 ^ 64) (fl n) (fin false 1 (pos 64)) (fl-is n h) (refl, refl) ∙ lt-ltb n (2 ^ 64) (lt_of_le_of_lt h (lit< tt))
