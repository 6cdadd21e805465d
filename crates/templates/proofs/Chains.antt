-- Texts joined piece by piece, as definitions write them, bracketed to the right, as a filled template is. Assumes nothing.
use Prim.Native.Nat.{ℕ}
use mathlib.Core.Path.{◌≡◌, refl, ◌∙◌}
use mathlib.Core.List.{List, [], ◌∷◌, ◌++◌, append_assoc}

-- one piece behind the other, and at last `end`
abbrev pub joined_to : List ℕ → List (List ℕ) → List ℕ → List ℕ
joined_to done [] end = done ++ end
joined_to done (x ∷ xs) end = joined_to (done ++ x) xs end

-- the same from the end
abbrev pub before : List (List ℕ) → List ℕ → List ℕ
before [] end = end
before (x ∷ xs) end = x ++ before xs end

pub chained : (done : List ℕ) (xs : List (List ℕ)) (end : List ℕ) → joined_to done xs end ≡ done ++ before xs end
chained done [] end = refl
chained done (x ∷ xs) end = chained (done ++ x) xs end ∙ append_assoc done x (before xs end)
