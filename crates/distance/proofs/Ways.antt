-- The ways through a lookup: no such row, no such column, past the end, inside. Assumes nothing.
use Prim.Native.Nat.{ℕ, zero, suc, ◌+◌, ◌*◌, ◌/◌, ◌≤◌, ◌<◌}
use native.Mathlib.Omega.{arith}
use native.Mathlib.Nat.{not-suc-le-zero, le_of_suc-le-suc, le-div_iff_mul-le, div-lt_iff_lt-mul, mul-le-mul}
use mathlib.Core.Path.{◌≡◌, refl, sym, ◌∙◌}
use mathlib.Core.Bool.{Bool, true, false, cond, ◌&&◌}
use mathlib.Core.List.{List, [], ◌∷◌}
use lib.ListN.{length, get_or, get_or-eq_default}
use lib.Dec.{ltb}
use lib.Ieee.{Float, inf}
use borrow.Author.Tests.{lt-ltb, le-ltb}
use Rattle.definitions.specs.Sheet.{time_table}
use Rattle.distance.specs.Lookup.{number_f}

-- inside a list any default gives the same
pub get_d_any : {A : Type 0} (l : List A) (i : ℕ) (d e : A) → i < length l → get_or l i d ≡ get_or l i e
get_d_any [] i d e h = absurd (not-suc-le-zero h)
get_d_any (x ∷ l) zero d e h = refl
get_d_any (x ∷ l) (suc i) d e h = get_d_any l i d e (le_of_suc-le-suc h)

either_way : (b : Bool) (x : Float) → cond b x x ≡ x
either_way true x = refl
either_way false x = refl

module _ (table : List Float) (size from to : ℕ) where
  pub no_row : size ≤ from → inf false ≡ number_f table size from to
  unfolding number_f
  no_row h = rw (le-ltb from size h)

  pub no-column : size ≤ to → inf false ≡ number_f table size from to
  unfolding number_f
  no-column h = rw (le-ltb to size h) (neither (ltb from size))
    where
      neither : (b : Bool) → inf false ≡ cond (b && false) (get_or table (from * size + to) (inf false)) (inf false)
      neither true = refl
      neither false = refl

  pub past_end : length table ≤ from * size + to → inf false ≡ number_f table size from to
  unfolding number_f
  past_end h = rw (get_or-eq_default table (inf false) h) (sym (either_way (ltb from size && ltb to size) (inf false)))

  pub inside : (d : Float) → from < size → to < size → from * size + to < length table → get_or table (from * size + to) d ≡ number_f table size from to
  unfolding number_f
  inside d p q h = get_d_any table (from * size + to) d (inf false) h ∙ rw (lt-ltb from size p, lt-ltb to size q)

-- ---- the index

-- up to 2 ^ 32 rows it does not wrap
pub narrow : (size from to : ℕ) → from < size → to < size → size ≤ 0x1_0000_0000 → from * size + to < 0x1_0000_0000_0000_0000
narrow size from to p q h =
    let f : from ≤ 0xFFFF_FFFF = omega arith in
    let m : from * size ≤ 0xFFFF_FFFF * 0x1_0000_0000 = mul-le-mul f h in
    omega arith

-- a row that begins in the table, and one that does not, by the quotient
pub row_in : (n size from : ℕ) → from < size → from ≤ n / size → from * size ≤ n
row_in n size from l h = (le-div_iff_mul-le {k = size} {x = from} {y = n} (omega arith)).0 h

pub row_out : (n size from : ℕ) → from < size → n / size < from → n < from * size
row_out n size from l h = (div-lt_iff_lt-mul {k = size} {x = n} {y = from} (omega arith)).0 h

-- ---- the time table in use

pub no-times : (distances times : List Float) → length times ≡ 0 → distances ≡ time_table distances times
no-times distances [] h = refl
no-times distances (t ∷ ts) h = absurd (clash h)
  where
    clash : length (t ∷ ts) ≡ 0 → ⊥
    clash e = omega arith

pub own-times : (distances times : List Float) → (length times ≡ 0 → ⊥) → times ≡ time_table distances times
own-times distances [] h = absurd (h refl)
own-times distances (t ∷ ts) h = refl
