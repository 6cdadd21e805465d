-- A list by its elements, and the length of the arrays that hold a table.
use Rattle.std.specs.Prelude.{ℕ, zero, suc, List, [], ◌∷◌}

-- the most calls that are cut: a tour has each of at most 63 customers once
abbrev pub most_cut : ℕ
most_cut = 63

-- the cells of a table: one for each beginning of so many calls, the empty one included
abbrev pub cells : ℕ
cells = suc most_cut

module _ {A : Type 0} where
  unfoldable pub tab_from : (ℕ → A) → ℕ → ℕ → List A
  tab_from f i zero = []
  tab_from f i (suc n) = f i ∷ tab_from f (suc i) n

  -- f 0, f 1, .. f (n - 1)
  abbrev pub tab : (ℕ → A) → ℕ → List A
  tab f n = tab_from f 0 n
