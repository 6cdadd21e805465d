-- The cut of a tour of calls into consecutive runs: cuttings and what they cost, the table that is filled row by row, and the cutting
-- that is read back from it, over any type of costs; then what is asked of the costs.
-- A run goes from call i up to, and not with, call j. A cutting's cost is added run by run, from the left.
use Prim.Native.Nat.{ℕ, zero, suc, ◌<◌, ◌≤◌}
use Rattle.std.specs.Prelude.{◌≡◌, Bool, true, false, ◌&&◌, List, [], ◌∷◌, ltb}
use Rattle.std.proofs.Math.Bool.{cond}
use Rattle.basics.specs.Lists.{Rising}

-- Costs, and how a run adds to them. `lower a b` is the test that replaces b by a. `top` is the cost of what
-- cannot be done, as a run that is not legal.
pub record Rule (C : Type 0) : Type 0 where
  pub lower : C → C → Bool
  pub start : C
  pub top : C
  pub step : C → ℕ → ℕ → C

-- ---- cuttings: a list of the ends of the runs, the first run starting at 0

-- the last end
abbrev pub end_of : ℕ → List ℕ → ℕ
end_of i [] = i
end_of i (j ∷ js) = end_of j js

-- a cutting of the first n calls: each end is above the one before, and the last is n
abbrev pub Cut : ℕ → List ℕ → Type 0
Cut n js = Rising 0 js × (end_of 0 js ≡ n)

-- The ends read back from j, in front of those that are known already. p j is where the run that ends at j starts; f is enough turns.
unfoldable pub back_of : (ℕ → ℕ) → ℕ → ℕ → List ℕ → List ℕ
back_of p zero j js = js
back_of p (suc f) zero js = js
back_of p (suc f) (suc j) js = back_of p f (p (suc j)) (suc j ∷ js)

-- each start lies below its end, for the ends up to n
abbrev pub Falls : (ℕ → ℕ) → ℕ → Type 0
Falls p n = (j : ℕ) → 0 < j → j ≤ n → p j < j

module _ {C : Type 0} (S : Rule C) where
  -- the cost c at i, and then the runs that end at js
  abbrev pub walk : C → ℕ → List ℕ → C
  walk c i [] = c
  walk c i (j ∷ js) = walk (S.step c i j) j js

  -- what a cutting costs
  abbrev pub cost_of : List ℕ → C
  cost_of js = walk S.start 0 js

  -- a cost that can be had
  abbrev pub Present : C → Type 0
  Present c = S.lower c S.top ≡ true

  -- ---- the table, row by row: row i tries the runs that start at i

  -- what stands at j at first
  unfoldable pub first : ℕ → C
  first zero = S.start
  first (suc j) = S.top

  -- whether row i puts its run at j: a lower cost replaces, and an equal one does not
  abbrev pub puts : ℕ → ℕ → C → C → Bool
  puts i j new old = ltb i j && S.lower new old

  -- What stands at j after the rows below i. Row i tries the run from i to j after the best of the first i calls.
  unfoldable pub cost : ℕ → ℕ → C
  unfolding first
  cost zero j = first j
  cost (suc i) j = cond (puts i j (S.step (cost i i) i j) (cost i j)) (S.step (cost i i) i j) (cost i j)

  -- where the last run of what stands at j starts, after the rows below i
  unfoldable pub from : ℕ → ℕ → ℕ
  unfolding cost
  from zero j = 0
  from (suc i) j = cond (puts i j (S.step (cost i i) i j) (cost i j)) i (from i j)

  -- the least cost of the first j calls, and where its last run starts
  abbrev pub best : ℕ → C
  best j = cost j j

  abbrev pub pred : ℕ → ℕ
  pred j = from j j

  -- the cutting of the first j calls, read back
  abbrev pub back : ℕ → ℕ → List ℕ → List ℕ
  back = back_of (λ j. pred j)

  abbrev pub ends : ℕ → List ℕ
  ends j = back j j []

  -- the candidate of row i at j
  abbrev pub cand : ℕ → ℕ → C
  cand i j = S.step (best i) i j

  -- the starts below k, in their order: a lower cost replaces
  unfoldable pub scan : ℕ → ℕ → C
  scan zero j = S.top
  scan (suc k) j = cond (S.lower (cand k j) (scan k j)) (cand k j) (scan k j)

-- ---- what is asked of the costs

-- `lower b a ≡ false` is read: a is at most b. `Good j a` says that a may stand at j: only costs
-- at one j are compared, so a bound may grow with j.
pub record Laws {C : Type 0} (S : Rule C) (Good : ℕ → C → Type 0) : Type 0 where
  pub asym : (j : ℕ) (a b : C) → Good j a → Good j b → S.lower a b ≡ true → S.lower b a ≡ false
  pub neg-trans : (j : ℕ) (a b c : C) → Good j a → Good j b → Good j c → S.lower b a ≡ false → S.lower c b ≡ false → S.lower c a ≡ false
  pub start-good : Good 0 S.start
  pub top-good : (j : ℕ) → Good j S.top
  pub step-good : (a : C) (i j : ℕ) → i < j → Good i a → Good j (S.step a i j)
  -- nothing is above `top`
  pub at-most-top : (j : ℕ) (a : C) → Good j a → S.lower S.top a ≡ false
  -- a run keeps the order
  pub mono : (a b : C) (i j : ℕ) → i < j → Good i a → Good i b → S.lower b a ≡ false → S.lower (S.step b i j) (S.step a i j) ≡ false
  -- a run after what cannot be done cannot be done
  pub strict : (a : C) (i j : ℕ) → i < j → Good i a → S.lower a S.top ≡ false → S.lower (S.step a i j) S.top ≡ false
