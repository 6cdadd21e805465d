-- Costs with no infinity of their own: `none` stands for what cannot be done, and the best of the first n calls is an `Option`.
use Rattle.std.specs.Prelude.{ℕ, ◌<◌, ◌≡◌, Bool, true, false, List, [], ◌∷◌, Option, None, Some}
use Rattle.basics.specs.Options.{Holds}
use Rattle.cut_theory.specs.Cut.{best, pred, ends}
use Rattle.cut_theory.specs.Runs.{Runs, rule_of}

-- the runs, their costs without an infinity
pub record Plain (C : Type 0) : Type 0 where
  pub lower : C → C → Bool
  pub start : C
  pub legal : ℕ → ℕ → Bool
  pub ext : C → ℕ → ℕ → C

module _ {C : Type 0} (P : Plain C) where
  abbrev pub lower_opt : Option C → Option C → Bool
  lower_opt None b = false
  lower_opt (Some a) None = true
  lower_opt (Some a) (Some b) = P.lower a b

  abbrev pub ext_opt : Option C → ℕ → ℕ → Option C
  ext_opt None i j = None
  ext_opt (Some a) i j = Some (P.ext a i j)

  abbrev pub opt : Runs (Option C)
  opt = record { lower = lower_opt; start = Some P.start; top = None; legal = P.legal; ext = ext_opt }

  abbrev pub plain_from : C → ℕ → List ℕ → C
  plain_from c i [] = c
  plain_from c i (j ∷ js) = plain_from (P.ext c i j) j js

  -- what a cutting comes to
  abbrev pub plain_sum : List ℕ → C
  plain_sum js = plain_from P.start 0 js

  -- the least cost of the first n calls, the start of its last run, and the ends of its runs
  abbrev pub best_opt : ℕ → Option C
  best_opt n = best (rule_of opt) n

  abbrev pub pred_opt : ℕ → ℕ
  pred_opt n = pred (rule_of opt) n

  abbrev pub ends_opt : ℕ → List ℕ
  ends_opt n = ends (rule_of opt) n

pub record PlainLaws {C : Type 0} (P : Plain C) (Good : ℕ → C → Type 0) : Type 0 where
  pub asym : (j : ℕ) (a b : C) → Good j a → Good j b → P.lower a b ≡ true → P.lower b a ≡ false
  pub neg-trans : (j : ℕ) (a b c : C) → Good j a → Good j b → Good j c → P.lower b a ≡ false → P.lower c b ≡ false → P.lower c a ≡ false
  pub start-good : Good 0 P.start
  pub ext-good : (a : C) (i j : ℕ) → i < j → P.legal i j ≡ true → Good i a → Good j (P.ext a i j)
  pub mono : (a b : C) (i j : ℕ) → i < j → P.legal i j ≡ true → Good i a → Good i b → P.lower b a ≡ false
      → P.lower (P.ext b i j) (P.ext a i j) ≡ false

-- what may stand at j, where something does
abbrev pub GoodOpt : {C : Type 0} → (ℕ → C → Type 0) → ℕ → Option C → Type 0
GoodOpt Good j o = Holds (Good j) o
