-- The largest distance, and whether legs are as long both ways, on floats, as the code has them. Definitions only.
use Rattle.std.specs.Prelude.{ℕ, Bool, true, not, ◌&&◌, List, [], ◌∷◌, Float}
use Rattle.std.specs.Float.Ieee as Ieee
use Rattle.std.specs.Float.{binary64}
use Rattle.basics.specs.Lists.{all}
use Rattle.whole.specs.Whole.{fl}
use Rattle.whole.specs.Larger.{larger_f}

-- the largest of these and of what was found before
unfoldable pub largest_f : Float → List Float → Float
largest_f most [] = most
largest_f most (x ∷ l) = largest_f (larger_f most x) l

-- four at a time, each against a largest of its own; those that are left behind the last four, one at a time
unfoldable pub largest_by_four_f : Float → Float → Float → Float → List Float → Float
largest_by_four_f a b c d [] = larger_f (larger_f a b) (larger_f c d)
largest_by_four_f a b c d (w ∷ []) = largest_f (larger_f (larger_f a b) (larger_f c d)) (w ∷ [])
largest_by_four_f a b c d (w ∷ x ∷ []) = largest_f (larger_f (larger_f a b) (larger_f c d)) (w ∷ x ∷ [])
largest_by_four_f a b c d (w ∷ x ∷ y ∷ []) = largest_f (larger_f (larger_f a b) (larger_f c d)) (w ∷ x ∷ y ∷ [])
largest_by_four_f a b c d (w ∷ x ∷ y ∷ z ∷ l) = largest_by_four_f (larger_f a w) (larger_f b x) (larger_f c y) (larger_f d z) l

unfoldable pub scale_f : List Float → Float
scale_f distances = largest_by_four_f (fl 0) (fl 0) (fl 0) (fl 0) distances

-- the difference is neither above nor below 0
unfoldable pub legs_equal_f : Float → Float → Bool
legs_equal_f there back =
    let d = Ieee.sub binary64 there back in
    not (Ieee.lt (fl 0) d) && not (Ieee.lt d (fl 0))

module _ (leg : ℕ → ℕ → Float) where
  -- the legs between place i and these
  abbrev pub all_equal_f : ℕ → List ℕ → Bool
  all_equal_f i js = all (λ j. legs_equal_f (leg i j) (leg j i)) js

  -- those between any two of these
  unfoldable pub symmetric_f : List ℕ → Bool
  symmetric_f [] = true
  symmetric_f (c ∷ cs) = all_equal_f c cs && symmetric_f cs
