-- What a stored number means: cases of `value`, that it and `fl` undo each other, and the test of a stored number against a range. Assumes nothing.
use Rattle.std.proofs.Common.{◌≡◌, ℕ, ◌*◌, ◌/◌, ◌%◌, ◌≤◌, true, false, T, eqb, leb, sym, refl, ◌∙◌, true≢false, le_trans, add-zero, div-add-mod', mul-one, mul-div_cancel, eqb-true, le-leb, leb-true}
use Rattle.std.specs.Prelude.{None, Some}
use native.Mathlib.Nat.{mul-mod_left}
use lib.Ieee as Ieee
use lib.Ieee.{Float, nan, inf, fin, binary64, up, down}
use lib.Ieee.Fits.{down_pos}
use Rattle.basics.proofs.TestLaws.{by-test}
use Rattle.basics.proofs.OptionLaws.{granted, held, clash}
use Rattle.basics.specs.Options.{holds}
use Rattle.whole.specs.Whole.{fl, limit, Is}
use Rattle.whole.proofs.WholeLaws.{fl-is, is-fl}
use Rattle.whole.specs.Value.{value}

-- ---- cases
pub value-zero : value (Ieee.of_bits binary64 0) ≡ Some 0
unfolding value Ieee.of_bits
value-zero = refl

pub value-minus-zero : value (Ieee.of_bits binary64 0x8000_0000_0000_0000) ≡ None
unfolding value Ieee.of_bits
value-minus-zero = refl

pub value-half : value (Ieee.of_bits binary64 0x3fe0_0000_0000_0000) ≡ None
unfolding value Ieee.of_bits
value-half = refl

pub value-minus-one : value (Ieee.of_bits binary64 0xbff0_0000_0000_0000) ≡ None
unfolding value Ieee.of_bits
value-minus-one = refl

pub value-nan : value (Ieee.of_bits binary64 0x7ff8_0000_0000_0000) ≡ None
unfolding value Ieee.of_bits
value-nan = refl

pub value-infinity : value (Ieee.of_bits binary64 0x7ff0_0000_0000_0000) ≡ None
unfolding value Ieee.of_bits
value-infinity = refl

pub value-largest : value (Ieee.of_bits binary64 0x4163_12d0_0000_0000) ≡ Some 10000000
unfolding value Ieee.of_bits
value-largest = refl

pub value-limit : value (Ieee.of_bits binary64 0x4340_0000_0000_0000) ≡ Some limit
unfolding value Ieee.of_bits
value-limit = refl

-- ---- `value` and `fl` undo each other
pub is-value : (x : Float) (n : ℕ) → Is x n → value x ≡ Some n
unfolding value
is-value nan n p = elim p [ ]
is-value (inf _) n p = elim p [ ]
is-value (fin true m e) n p = absurd (true≢false p.0)
is-value (fin false m e) n p = rw (sym (mul-one (m * up e)) ∙ p.1, mul-mod_left n (down e), mul-div_cancel n (down_pos e))

pub value-is : (x : Float) (n : ℕ) → value x ≡ Some n → Is x n
unfolding value
value-is nan n h = clash h
value-is (inf s) n h = clash h
value-is (fin true m e) n h = clash h
value-is (fin false m e) n h =
    let g = granted (eqb (m * up e % down e) 0) (m * up e / down e) n h in
    (refl, mul-one (m * up e) ∙ sym (div-add-mod' (m * up e) (down e)) ∙ rw (g.1, eqb-true (m * up e % down e) 0 g.0) (add-zero (n * down e)))

pub value-fl : (n : ℕ) → n ≤ limit → value (fl n) ≡ Some n
value-fl n h = is-value (fl n) n (fl-is n h)

pub fl-value : (x : Float) (n : ℕ) → T (Ieee.fits binary64 x) → value x ≡ Some n → n ≤ limit → x ≡ fl n
fl-value x n f e h = is-fl x n f (value-is x n e) h

-- ---- a stored number within a range, which ends at m
pub record Stored (x : Float) (m : ℕ) : Type 0 where
  pub number : ℕ
  pub means : value x ≡ Some number
  pub small : number ≤ m
  pub is : x ≡ fl number

module _ (x : Float) (m : ℕ) where
  pub stored : T (Ieee.fits binary64 x) → m ≤ limit → holds (value x) (λ n. leb n m) ≡ true → Stored x m
  stored f l e =
      let h = held (value x) (λ n. leb n m) e in
      let s = leb-true h.0 m h.2 in
      record { number = h.0; means = h.1; small = s; is = fl-value x h.0 f h.1 (le_trans s l) }

  -- each number of the range passes the test
  pub within : (n : ℕ) → x ≡ fl n → n ≤ m → m ≤ limit → holds (value x) (λ n. leb n m) ≡ true
  within n e s l = rw (e, value-fl n (le_trans s l)) (le-leb n m s)

  -- and a float that is none of them fails it
  pub outside : T (Ieee.fits binary64 x) → m ≤ limit → ((n : ℕ) → x ≡ fl n → n ≤ m → ⊥) → holds (value x) (λ n. leb n m) ≡ false
  outside f l none_of = by-test (holds (value x) (λ n. leb n m)) (λ e. let s = stored f l e in absurd (none_of s.number s.is s.small)) (λ e. e)
