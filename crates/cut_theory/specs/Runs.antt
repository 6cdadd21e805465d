-- Runs that are legal or not, and what a legal one adds: a rule of `Cut`, whose `step` is `top` where
-- the run is not legal or comes to `top`.
use Rattle.std.specs.Prelude.{ℕ, ◌<◌, ◌≡◌, Bool, true, false, cond, ◌&&◌, List, [], ◌∷◌}
use Rattle.cut_theory.specs.Cut.{Rule, end_of}

pub record Runs (C : Type 0) : Type 0 where
  pub lower : C → C → Bool
  pub start : C
  pub top : C
  pub legal : ℕ → ℕ → Bool
  pub ext : C → ℕ → ℕ → C

module _ {C : Type 0} (R : Runs C) where
  abbrev pub step_of : C → ℕ → ℕ → C
  step_of c i j = cond (R.legal i j && R.lower (R.ext c i j) R.top) (R.ext c i j) R.top

  abbrev pub rule_of : Rule C
  rule_of = record { lower = R.lower; start = R.start; top = R.top; step = step_of }

  -- every run is legal
  abbrev pub LegalFrom : ℕ → List ℕ → Type 0
  LegalFrom i [] = Unit {0}
  LegalFrom i (j ∷ js) = (i < j) × (R.legal i j ≡ true) × LegalFrom j js

  -- a legal cutting of the first n calls
  abbrev pub LegalCut : ℕ → List ℕ → Type 0
  LegalCut n js = LegalFrom 0 js × (end_of 0 js ≡ n)

  -- what the runs add to c, one after the other
  abbrev pub sum_from : C → ℕ → List ℕ → C
  sum_from c i [] = c
  sum_from c i (j ∷ js) = sum_from (R.ext c i j) j js

  abbrev pub sum_of : List ℕ → C
  sum_of js = sum_from R.start 0 js

-- what is asked of the costs and of `ext`, at legal runs alone; `lower b a ≡ false` is read: a is at most b
pub record RunLaws {C : Type 0} (R : Runs C) (Good : ℕ → C → Type 0) : Type 0 where
  pub asym : (j : ℕ) (a b : C) → Good j a → Good j b → R.lower a b ≡ true → R.lower b a ≡ false
  pub neg-trans : (j : ℕ) (a b c : C) → Good j a → Good j b → Good j c → R.lower b a ≡ false → R.lower c b ≡ false → R.lower c a ≡ false
  pub start-good : Good 0 R.start
  pub top-good : (j : ℕ) → Good j R.top
  pub ext-good : (a : C) (i j : ℕ) → i < j → R.legal i j ≡ true → Good i a → Good j (R.ext a i j)
  pub at-most-top : (j : ℕ) (a : C) → Good j a → R.lower R.top a ≡ false
  pub mono : (a b : C) (i j : ℕ) → i < j → R.legal i j ≡ true → Good i a → Good i b → R.lower b a ≡ false
      → R.lower (R.ext b i j) (R.ext a i j) ≡ false
  pub strict : (a : C) (i j : ℕ) → i < j → R.legal i j ≡ true → Good i a → R.lower a R.top ≡ false
      → R.lower (R.ext a i j) R.top ≡ false
