-- The table at `f64`, for any runs that are legal or not and any cost that a run adds: the rows that code fills one after the other, in
-- two arrays. +∞ stands for what cannot be done.
use Rattle.std.specs.Prelude.{ℕ, ◌≡◌, Bool, false, List, get_or, pos, Float}
use Rattle.std.specs.Float.{nan, inf, fin}
use Rattle.std.specs.Float.Ieee.{lt}
use Rattle.cut_theory.specs.Cut.{Rule, puts, cost, from}
use Rattle.cut_theory.specs.Runs.{Runs, step_of, rule_of}
use Rattle.cut_theory.specs.Tab.{cells, tab}
use Rattle.cut_theory.specs.Fill.{Fill, filled, up_to}

-- which runs are legal, and what a run makes of a cost
pub record Legs : Type 0 where
  pub legal : ℕ → ℕ → Bool
  pub ext : Float → ℕ → ℕ → Float

abbrev pub runs64 : Legs → Runs Float
runs64 E = record { lower = lt; start = fin false 0 (pos 0); top = inf false; legal = E.legal; ext = E.ext }

abbrev pub rule64 : Legs → Rule Float
rule64 E = rule_of (runs64 E)

-- what is not below +∞ adds up to nothing that is
abbrev pub Strict : Legs → Type 0
Strict E = (c : Float) (i j : ℕ) → lt c (inf false) ≡ false → lt (E.ext c i j) (inf false) ≡ false

-- what row i offers at j, and whether it puts that there
abbrev pub made : Legs → ℕ → List Float → ℕ → Float
made E i costs j = step_of (runs64 E) (get_or costs i nan) i j

abbrev pub wins : Legs → ℕ → List Float → ℕ → Bool
wins E i costs j = puts (rule64 E) i j (made E i costs j) (get_or costs j nan)

-- the costs and their starts, as row i fills them
abbrev pub cost_fill : Legs → ℕ → List Float → Fill Float
cost_fill E i costs = record { wins = wins E i costs; new = made E i costs; old = λ k. get_or costs k nan }

abbrev pub pred_fill : Legs → ℕ → List Float → List ℕ → Fill ℕ
pred_fill E i costs preds = record { wins = wins E i costs; new = λ _. i; old = λ k. get_or preds k 0 }

-- what stands at j after row i, and where that starts
abbrev pub row_cost : Legs → ℕ → List Float → ℕ → Float
row_cost E i costs = filled (cost_fill E i costs)

abbrev pub row_pred : Legs → ℕ → List Float → List ℕ → ℕ → ℕ
row_pred E i costs preds = filled (pred_fill E i costs preds)

-- the two arrays after the rows below i
abbrev pub costs : Legs → ℕ → List Float
costs E i = tab (cost (rule64 E) i) cells

abbrev pub preds : Legs → ℕ → List ℕ
preds E i = tab (from (rule64 E) i) cells

-- the row i, cell by cell: the cells up to j are as the row leaves them, and the others as they were
pub record Cells (E : Legs) (i : ℕ) (costs : List Float) (preds : List ℕ) (j : ℕ) (cost : List Float) (pred : List ℕ) : Type 0 where
  pub is-cost : cost ≡ tab (up_to (cost_fill E i costs) j) cells
  pub is-pred : pred ≡ tab (up_to (pred_fill E i costs preds) j) cells

-- the row i is done
abbrev pub Done : Legs → ℕ → List Float → List ℕ → List Float → List ℕ → Type 0
Done E i costs preds cost pred = (cost ≡ tab (row_cost E i costs) cells) × (pred ≡ tab (row_pred E i costs preds) cells)
