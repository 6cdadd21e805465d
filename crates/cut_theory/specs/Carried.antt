-- What is carried along the table of `Cut`, as the distance beside the cost: it is put anew just where the cost is. Then, at `f64`, the
-- array that code fills with it beside the costs and their starts.
use Rattle.std.specs.Prelude.{ℕ, zero, suc, ◌≡◌, cond, List, [], ◌∷◌, get_or, Float}
use Rattle.std.specs.Float.{nan}
use Rattle.cut_theory.specs.Cut.{Rule, puts, cost, cand}
use Rattle.cut_theory.specs.Tab.{cells, tab}
use Rattle.cut_theory.specs.Fill.{Fill, filled, up_to}
use Rattle.cut_theory.specs.Rows.{Legs, rule64, wins, row_cost, row_pred, costs, preds, Cells}

-- ---- over any costs

-- what is carried at first, and what a run makes of it
pub record Carry (D : Type 0) : Type 0 where
  pub start : D
  pub step : D → ℕ → ℕ → D

module _ {D : Type 0} (K : Carry D) where
  -- the runs that end at js, one after the other
  abbrev pub carry_all : D → ℕ → List ℕ → D
  carry_all d i [] = d
  carry_all d i (j ∷ js) = carry_all (K.step d i j) j js

module _ {C D : Type 0} (S : Rule C) (K : Carry D) where
  -- what is carried at j after the rows below i
  unfoldable pub carried : ℕ → ℕ → D
  carried zero j = K.start
  carried (suc i) j = cond (puts S i j (cand S i j) (cost S i j)) (K.step (carried i i) i j) (carried i j)

  -- with the best of the first j calls
  abbrev pub carried_to : ℕ → D
  carried_to j = carried j j

-- ---- at `f64`: the array of what is carried

-- as row i fills it
abbrev pub carry_fill : Legs → Carry Float → ℕ → List Float → List Float → Fill Float
carry_fill E K i costs fars = record { wins = wins E i costs; new = λ j. K.step (get_or fars i nan) i j; old = λ k. get_or fars k nan }

-- what is carried at j after row i
abbrev pub row_carried : Legs → Carry Float → ℕ → List Float → List Float → ℕ → Float
row_carried E K i costs fars = filled (carry_fill E K i costs fars)

-- the array after the rows below i
abbrev pub carries : Legs → Carry Float → ℕ → List Float
carries E K i = tab (carried (rule64 E) K i) cells

-- the three arrays in row i, cell by cell
pub record Filling (E : Legs) (K : Carry Float) (i : ℕ) (costs fars : List Float) (preds : List ℕ) (j : ℕ) (cost far : List Float)
    (pred : List ℕ) : Type 0 where
  pub in_cells : Cells E i costs preds j cost pred
  pub is-far : far ≡ tab (up_to (carry_fill E K i costs fars) j) cells

-- row i is done
pub record RowDone (E : Legs) (K : Carry Float) (i : ℕ) (costs fars : List Float) (preds : List ℕ) (cost far : List Float)
    (pred : List ℕ) : Type 0 where
  pub cost-is : cost ≡ tab (row_cost E i costs) cells
  pub far-is : far ≡ tab (row_carried E K i costs fars) cells
  pub pred-is : pred ≡ tab (row_pred E i costs preds) cells

-- the rows below i are done
pub record RowsDone (E : Legs) (K : Carry Float) (i : ℕ) (cost far : List Float) (pred : List ℕ) : Type 0 where
  pub costs-are : cost ≡ costs E i
  pub fars-are : far ≡ carries E K i
  pub preds-are : pred ≡ preds E i
