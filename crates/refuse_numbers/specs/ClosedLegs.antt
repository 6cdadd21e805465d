-- Closed legs on floats. Definitions only.
use Rattle.std.specs.Prelude.{Bool, false, cond, not, ◌||◌, List, [], ◌∷◌, Float}
use Rattle.distance.specs.Lookup.{is_closed_f}

-- one of the two is closed and the other is not
abbrev pub apart_f : Float → Float → Bool
apart_f x y = cond (is_closed_f x) (not (is_closed_f y)) (is_closed_f y)

-- leg by leg
abbrev pub disagree_f : List Float → List Float → Bool
disagree_f [] ts = false
disagree_f (d ∷ ds) [] = false
disagree_f (d ∷ ds) (t ∷ ts) = apart_f d t || disagree_f ds ts
