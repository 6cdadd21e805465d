-- The drop rule of `Drop` at the cuttings of `Runs`: what is legal may turn on the whole held list. A beginning is taken to have a
-- cutting where the table's best is there.
use Rattle.std.specs.Prelude.{ℕ, ◌≡◌, Bool, true, List}
use Rattle.cut_theory.specs.Cut.{best}
use Rattle.cut_theory.specs.Runs.{Runs, rule_of, LegalCut, sum_of}
use Rattle.cut_theory.specs.Drop.{held}

module _ {A C : Type 0} (R : List A → Runs C) where
  -- a legal cutting of the first n calls of l that comes to less than `top`
  abbrev pub Cuttable : List A → ℕ → Type 0
  Cuttable l n = (js : List ℕ) × LegalCut (R l) n js × ((R l).lower (sum_of (R l) js) (R l).top ≡ true)

  abbrev pub have : List A → ℕ → Bool
  have l n = (R l).lower (best (rule_of (R l)) n) (R l).top

  -- the list that is held in the end
  abbrev pub kept : List A → List A
  kept l = held have l
