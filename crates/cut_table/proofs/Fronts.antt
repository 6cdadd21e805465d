-- A list at the front of an array that it was written into. Assumes nothing.
use Prim.Native.Nat.{ℕ, ◌≤◌}
use native.Mathlib.Omega.{arith}
use mathlib.Core.Path.{◌≡◌, sym, ap, ◌∙◌}
use mathlib.Core.List.{List}
use lib.ListN.{length, take, drop, length-append}
use lib.Seq.{take-append_seam}
use Rattle.definitions.specs.Room.{written}

module _ {A : Type 0} (n : ℕ) (l old new : List A) (many : n ≡ length l) (holds : new ≡ written l old) where
  pub front : take n new ≡ l
  front = rw (many, holds) (take-append_seam l (drop (length l) old))

  pub inside : n ≤ length new
  inside = omega (arith, ap length holds ∙ length-append l (drop (length l) old))

  pub counted : n ≡ length (take n new)
  counted = many ∙ ap length (sym front)
