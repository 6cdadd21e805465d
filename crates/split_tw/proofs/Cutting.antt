-- From the table of the calls held to their cut. Assumes nothing.
use Prim.Native.Nat.{ℕ, zero, suc, ◌+◌, ◌-◌, ◌<◌, ◌≤◌}
use native.Mathlib.Nat.{le_refl, add-zero}
use native.Mathlib.Omega.{arith}
use mathlib.Core.Path.{◌≡◌, sym, ap, subst, ◌∙◌}
use mathlib.Core.List.{List, [], ◌∷◌}
use lib.ListN.{length, get_or, take, drop, length-drop}
use lib.Seq.{take_all}
use lib.Ieee.{Float, nan}
use Rattle.cut_theory.specs.Cut.{Rule, pred, back_of, ends, Falls}
use Rattle.cut_theory.proofs.Best.{pred_lt}
use Rattle.cut_theory.specs.Tab.{most_cut, cells}
use Rattle.cut_theory.specs.Rows.{Legs, rule64}
use Rattle.cut_theory.proofs.RowLaws.{last-cost, last-falls, last-ends}
use Rattle.cut_theory.proofs.CarriedLaws.{last-far}
use Rattle.cut_table.specs.Table.{Table}
use Rattle.cut_runs.specs.Tariff.{Tariff, stretches, runs_of, fars_of, TableOf, ends_f, CutDone}

-- ---- what is read from the table

module _ (T : Tariff) (held : List ℕ) (few : length held ≤ most_cut) (t : Table) (R : TableOf T held (length held) t) where
  abbrev runs : Legs
  runs = runs_of T (stretches held)

  inside : length held < cells
  inside = omega arith

  pub table-falls : Falls (λ j. get_or t.pred j 0) (length held)
  table-falls = subst (λ (l : List ℕ). Falls (λ j. get_or l j 0) (length held)) (sym R.preds-are) (last-falls runs (length held) inside)

  pub table-cut : (at : ℕ) (es : List ℕ) → (at ≤ cells) × (length es ≡ cells)
      → drop at es ≡ back_of (λ j. get_or t.pred j 0) (length held) (length held) []
      → CutDone T held (get_or t.cost (length held) nan) (get_or t.far (length held) nan) at es
  table-cut at es l e =
      record {
        cost-is = ap (λ (x : List Float). get_or x (length held) nan) R.costs-are ∙ last-cost runs (length held) inside;
        distance_is = ap (λ (x : List Float). get_or x (length held) nan) R.fars-are ∙ last-far runs (fars_of T (stretches held)) (length held) inside;
        ends-are = e ∙ ap (λ (x : List ℕ). back_of (λ j. get_or x j 0) (length held) (length held) []) R.preds-are ∙ last-ends runs (length held) inside;
        inside = l.0;
        long = l.1;
      }

-- ---- there are no more runs than calls

back-few : (p : ℕ → ℕ) (n f j : ℕ) (js : List ℕ) → Falls p n → j ≤ n → length (back_of p f j js) ≤ j + length js
unfolding back_of
back-few p n zero j js w h = omega arith
back-few p n (suc f) zero js w h = omega arith
back-few p n (suc f) (suc j) js w h =
    let l = w (suc j) (omega arith) h in
    omega (arith, back-few p n f (p (suc j)) (suc j ∷ js) w (omega (arith, l)), l)

ends-few : {C : Type 0} (S : Rule C) (n : ℕ) → length (ends S n) ≤ n
ends-few S n = rw add-zero at (back-few (λ j. pred S j) n n n [] (λ j h _. pred_lt S j h) (le_refl n))

-- ---- the ends, as they are lent to be written

module _ (T : Tariff) (held : List ℕ) (cost distance : Float) (at : ℕ) (es : List ℕ) (D : CutDone T held cost distance at es) where
  pub part-is : take (cells - at) (drop at es) ≡ ends_f T held
  part-is = take_all (cells - at) (drop at es) (simp length-drop (omega (arith, D.long))) ∙ D.ends-are

  pub few-runs : length (take (cells - at) (drop at es)) ≤ length held
  few-runs = omega (arith, ap length part-is, ends-few (rule64 (runs_of T (stretches held))) (length held))

  pub runs-are : cells - at ≡ length (ends_f T held)
  runs-are = omega (arith, ap length D.ends-are, length-drop at es, D.long)
