-- Several tests at once.
use Rattle.std.specs.Prelude.{◌≡◌, Bool, false, ◌||◌, List, [], ◌∷◌}

-- one of them holds
abbrev pub either : List Bool → Bool
either [] = false
either (b ∷ bs) = b || either bs

-- none of them does
abbrev pub Falses : List Bool → Type 0
Falses [] = Unit {0}
Falses (b ∷ bs) = (b ≡ false) × Falses bs
