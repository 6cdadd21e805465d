-- Several tests joined one after the other are either of them. Assumes nothing.
use mathlib.Core.Path.{◌≡◌, sym, ◌∙◌}
use mathlib.Core.Bool.{Bool, ◌||◌, or_assoc, or-false}
use mathlib.Core.List.{List, [], ◌∷◌}
use Rattle.basics.specs.Tests.{either}

-- a, then each of the list, from the left
abbrev pub joined : Bool → List Bool → Bool
joined a [] = a
joined a (b ∷ bs) = joined (a || b) bs

pub join : (a : Bool) (bs : List Bool) → joined a bs ≡ either (a ∷ bs)
join a [] = sym (or-false a)
join a (b ∷ bs) = join (a || b) bs ∙ or_assoc a b (either bs)
