-- What `narrow` stores of an array that a list was written into: the list, as far as there is room. Assumes nothing.
use Prim.Native.Nat.{ℕ, ◌≤◌, min}
use native.Mathlib.Omega.{arith}
use native.Mathlib.Decide.{dec_le}
use mathlib.Core.Path.{◌≡◌, sym, ap, ◌∙◌}
use mathlib.Core.List.{List}
use lib.ListN.{length, take, drop}
use lib.Seq.{take_all, take-append-le}
use Rattle.definitions.specs.Room.{written}
use Rattle.definitions.specs.Bytes.{stored}

module _ (n : ℕ) (l array numbers old : List ℕ) (many : n ≡ length l) (holds : numbers ≡ written l array) where
  first : take (min n (length old)) numbers ≡ take (length old) l
  first =
      ap (take (min n (length old))) holds
      ∙ take-append-le (min n (length old)) l (drop (length l) array) (omega (arith, many))
      ∙ same (dec_le (length l) (length old))
    where
      same : Dec (length l ≤ length old) → take (min n (length old)) l ≡ take (length old) l
      same (yes h) = take_all (min n (length old)) l (omega (arith, many, h)) ∙ sym (take_all (length old) l h)
      same (no h) = let m : min n (length old) ≡ length old = omega (arith, many, h) in ap (λ (k : ℕ). take k l) m

  pub narrowed : stored (take (min n (length old)) numbers) old ≡ stored (take (length old) l) old
  narrowed = ap (λ (x : List ℕ). stored x old) first

-- all of it, where there is room
pub all-narrowed : (l old : List ℕ) → length l ≤ length old → stored (take (length old) l) old ≡ stored l old
all-narrowed l old h = ap (λ (x : List ℕ). stored x old) (take_all (length old) l h)
