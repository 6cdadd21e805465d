-- Runs with a price at `f64`: the terms of a run, as fixed cost, distance and lateness pay, are added one after the other to what the
-- calls before it cost, each sum rounded.
use Rattle.std.specs.Prelude.{ℕ, ◌<◌, ◌≡◌, Bool, true, List, [], ◌∷◌, Float}
use Rattle.std.specs.Float.{binary64}
use Rattle.std.specs.Float.Ieee.{add}
use Rattle.basics.specs.Lists.{All}
use Rattle.cut_theory.specs.Runs.{sum_of}
use Rattle.cut_theory.specs.Floats.{Nonneg}
use Rattle.cut_theory.specs.Rows.{Legs, runs64}

-- the terms added to c, from the left
abbrev pub added : Float → List Float → Float
added c [] = c
added c (t ∷ ts) = added (add binary64 c t) ts

-- which runs are legal, and the terms of a run's price
pub record Price : Type 0 where
  pub legal : ℕ → ℕ → Bool
  pub terms : ℕ → ℕ → List Float

abbrev pub legs : Price → Legs
legs P = record { legal = P.legal; ext = λ c i j. added c (P.terms i j) }

-- what a cutting costs
abbrev pub price_of : Price → List ℕ → Float
price_of P js = sum_of (runs64 (legs P)) js

-- no term of a legal run is a NaN or has a minus
abbrev pub Sound : Price → Type 0
Sound P = (i j : ℕ) → i < j → P.legal i j ≡ true → All Nonneg (P.terms i j)

-- the parts of a run's price, and the price with and without pay
pub record Parts : Type 0 where
  pub legal : ℕ → ℕ → Bool
  pub fixed : Float
  pub dist : ℕ → ℕ → Float
  pub pay : ℕ → ℕ → Float

abbrev pub with_pay : Parts → Price
with_pay Q = record { legal = Q.legal; terms = λ i j. Q.fixed ∷ Q.dist i j ∷ Q.pay i j ∷ [] }

abbrev pub without_pay : Parts → Price
without_pay Q = record { legal = Q.legal; terms = λ i j. Q.fixed ∷ Q.dist i j ∷ [] }
