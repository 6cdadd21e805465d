-- Tests over what is left of a list, one element at a time. Assumes nothing.
use Prim.Native.Nat.{ℕ, ◌+◌, ◌<◌, ◌≤◌}
use native.Mathlib.Numerals.{add-one}
use mathlib.Core.Path.{◌≡◌}
use mathlib.Core.Bool.{true, false}
use mathlib.Core.List.{List}
use lib.ListN.{length, get_or, drop, drop_of_length-le}
use lib.Seq.{drop-cons}
use lib.Ieee.{Float}
use Rattle.improve_base.specs.Gain.{all_equal_f, symmetric_f}

-- legs between any two of them
module _ (leg : ℕ → ℕ → Float) (calls : List ℕ) (i : ℕ) where
  pub pairs-go : i < length calls → all_equal_f leg (get_or calls i 0) (drop (i + 1) calls) ≡ true → symmetric_f leg (drop i calls) ≡ symmetric_f leg (drop (i + 1) calls)
  unfolding symmetric_f
  pairs-go h e = let f = rw (add-one i) at e in rw (drop-cons calls i 0 h, add-one i, f)

  pub pairs-stop : i < length calls → all_equal_f leg (get_or calls i 0) (drop (i + 1) calls) ≡ false → symmetric_f leg (drop i calls) ≡ false
  unfolding symmetric_f
  pairs-stop h e = let f = rw (add-one i) at e in rw (drop-cons calls i 0 h, f)

  pub pairs_end : length calls ≤ i → symmetric_f leg (drop i calls) ≡ true
  unfolding symmetric_f
  pairs_end h = rw (drop_of_length-le calls h)
