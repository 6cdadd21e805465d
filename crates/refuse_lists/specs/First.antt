-- Tests with their numbers, in one order, as the code has them. Definitions only.
use Rattle.std.specs.Prelude.{ℕ, Bool, List, [], ◌∷◌}
use Rattle.definitions.specs.Refusal.{Refusal, refusal}

unfoldable pub in_order : List ℕ → List Bool → List Refusal
in_order [] bs = []
in_order (n ∷ ns) [] = []
in_order (n ∷ ns) (b ∷ bs) = refusal n b ∷ in_order ns bs
