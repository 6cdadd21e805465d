-- How the rows that code fills one after the other, in two arrays, come to the table of `Cut`. Nothing is asked of the numbers. Assumes nothing.
use Prim.Native.Nat.{ℕ, zero, suc, ◌+◌, ◌<◌, ◌≤◌}
use native.Mathlib.Nat.{le_refl, suc-ne-zero}
use native.Mathlib.Numerals.{add-one}
use native.Mathlib.Omega.{arith}
use mathlib.Core.Path.{◌≡◌, refl, ap, ◌∙◌}
use mathlib.Core.Bool.{true, false, cond, and-false, false≢true}
use mathlib.Core.List.{List, []}
use lib.ListN.{length, get_or, set, replicate, length-set, length-replicate, get_or-replicate}
use lib.Seq.{get_or-set_other}
use lib.Dec.{ltb}
use lib.IntN.{pos}
use lib.Ieee.{Float, nan, inf, fin, lt}
use borrow.Author.Tests.{lt-ltb, le-ltb}
use Rattle.basics.proofs.TestLaws.{by-test, not-both}
use Rattle.cut_theory.specs.Cut.{first, cost, from, best, pred, back_of, ends, Falls}
use Rattle.cut_theory.proofs.Best.{settled-from, pred_lt}
use Rattle.cut_theory.specs.Tab.{cells, tab}
use Rattle.cut_theory.proofs.TabLaws.{tab-of, length-tab, get_d-tab}
use Rattle.cut_theory.proofs.BackLaws.{agree}
use Rattle.cut_theory.specs.Fill.{up_to}
use Rattle.cut_theory.proofs.FillLaws.{at_high, begun, ended, untouched, one_more}
use Rattle.cut_theory.proofs.FloatLaws.{lt-inf, lt-none, guarded}
use Rattle.cut_theory.specs.Rows.{Legs, rule64, Strict, made, wins, cost_fill, pred_fill, row_cost, row_pred, costs, preds, Cells, Done}

-- ---- a row, cell by cell

module _ (E : Legs) (i : ℕ) (costs : List Float) (preds : List ℕ) where
  pub won-low : (k : ℕ) → k ≤ i → wins E i costs k ≡ false
  won-low k h = rw (le-ltb i k h) refl

  pub won-barred : (k : ℕ) → E.legal i k ≡ false → wins E i costs k ≡ false
  won-barred k e = rw (e, lt-inf (get_or costs k nan)) (and-false (ltb i k))

  -- before the first cell
  pub outset : length costs ≡ cells → length preds ≡ cells → Cells E i costs preds i costs preds
  outset lc lp =
      record {
        is-cost = begun (cost_fill E i costs) cells i nan costs lc (λ k. refl) won-low;
        is-pred = begun (pred_fill E i costs preds) cells i 0 preds lp (λ k. refl) won-low;
      }

  module _ (j : ℕ) (cost : List Float) (pred : List ℕ) (A : Cells E i costs preds j cost pred) where
    -- no run that ends past j is legal: the row is done
    pub finished : ((k : ℕ) → j < k → E.legal i k ≡ false) → Done E i costs preds cost pred
    finished z = (
      A.is-cost ∙ ended (cost_fill E i costs) cells j (λ k h. won-barred k (z k h)),
      A.is-pred ∙ ended (pred_fill E i costs preds) cells j (λ k h. won-barred k (z k h)),
    )

    -- the run to the next cell is not legal: it is passed over
    pub passed : (k : ℕ) → k ≡ suc j → k < cells → E.legal i k ≡ false → Cells E i costs preds k cost pred
    passed k e b z =
        record {
          is-cost = A.is-cost ∙ one_more (cost_fill E i costs) cells j k false nan e b (won-barred k z) (λ t. absurd (false≢true t));
          is-pred = A.is-pred ∙ one_more (pred_fill E i costs preds) cells j k false i e b (won-barred k z) (λ _. refl);
        }

    -- the run to the next cell is legal: the plain test
    module _ (k : ℕ) (new : Float) (e : k ≡ suc j) (b : k < cells) (low : i < k) (z : E.legal i k ≡ true) (en : new ≡ E.ext (get_or costs i nan) i k) where
      made-here : made E i costs k ≡ cond (lt new (inf false)) new (inf false)
      made-here = rw (z, en) refl

      old-here : get_or cost k nan ≡ get_or costs k nan
      old-here =
          ap (λ (l : List Float). get_or l k nan) A.is-cost
          ∙ get_d-tab (up_to (cost_fill E i costs) j) cells k nan b
          ∙ at_high (cost_fill E i costs) j k (omega arith)

      pub test-is : wins E i costs k ≡ lt new (get_or cost k nan)
      test-is = rw (lt-ltb i k low, old-here) (ap (λ (x : Float). lt x (get_or costs k nan)) made-here ∙ guarded new (get_or costs k nan))

      new_is : lt new (get_or cost k nan) ≡ true → made E i costs k ≡ new
      new_is t =
          made-here ∙ by-test (lt new (inf false)) (λ p. rw p refl) (λ n. not-both (lt new (get_or cost k nan)) t (lt-none new (get_or cost k nan) n))

      pub offered : (cost' : List Float) (pred' : List ℕ)
          → cost' ≡ cond (lt new (get_or cost k nan)) (set cost k new) cost
          → pred' ≡ cond (lt new (get_or cost k nan)) (set pred k i) pred
          → Cells E i costs preds k cost' pred'
      offered cost' pred' ec ep =
          let t = lt new (get_or cost k nan) in
          record {
            is-cost =
                ec ∙ ap (λ (l : List Float). cond t (set l k new) l) A.is-cost
                ∙ one_more (cost_fill E i costs) cells j k t new e b test-is new_is;
            is-pred =
                ep ∙ ap (λ (l : List ℕ). cond t (set l k i) l) A.is-pred
                ∙ one_more (pred_fill E i costs preds) cells j k t i e b test-is (λ _. refl);
          }

-- ---- the rows, one after the other

module _ (E : Legs) where
  -- a row whose start is not reached puts nothing, so code may pass it over
  module _ (strict : Strict E) (i : ℕ) (cs : List Float) (ps : List ℕ) (un : lt (get_or cs i nan) (inf false) ≡ false) where
    made_none : (j : ℕ) → made E i cs j ≡ inf false
    made_none j = rw (strict (get_or cs i nan) i j un, and-false (E.legal i j)) refl

    pub unreached : (j : ℕ) → wins E i cs j ≡ false
    unreached j = rw (made_none j, lt-inf (get_or cs j nan)) (and-false (ltb i j))

    pub skipped : length cs ≡ cells → length ps ≡ cells → Done E i cs ps cs ps
    skipped lc lp = (
      untouched (cost_fill E i cs) cells nan cs lc (λ k. refl) unreached,
      untouched (pred_fill E i cs ps) cells 0 ps lp (λ k. refl) unreached,
    )

  -- a row takes the table on
  pub next-cost : (i : ℕ) → i < cells → tab (row_cost E i (costs E i)) cells ≡ costs E (i + 1)
  unfolding cost
  next-cost i h =
      rw add-one
      (tab-of (cost (rule64 E) (suc i)) cells nan (tab (row_cost E i (costs E i)) cells) (length-tab (row_cost E i (costs E i)) cells)
      (λ k b. get_d-tab (row_cost E i (costs E i)) cells k nan b
      ∙ rw (get_d-tab (cost (rule64 E) i) cells k nan b, get_d-tab (cost (rule64 E) i) cells i nan h) refl))

  pub next-pred : (i : ℕ) → i < cells → tab (row_pred E i (costs E i) (preds E i)) cells ≡ preds E (i + 1)
  unfolding from
  next-pred i h =
      rw add-one
      (tab-of (from (rule64 E) (suc i)) cells 0 (tab (row_pred E i (costs E i) (preds E i)) cells) (length-tab (row_pred E i (costs E i) (preds E i)) cells)
      (λ k b. get_d-tab (row_pred E i (costs E i) (preds E i)) cells k 0 b
      ∙ rw (get_d-tab (cost (rule64 E) i) cells k nan b, get_d-tab (cost (rule64 E) i) cells i nan h, get_d-tab (from (rule64 E) i) cells k 0 b) refl))

  -- as it starts
  pub first-cost : (x z : Float) → x ≡ inf false → z ≡ fin false 0 (pos 0) → set (replicate cells x) 0 z ≡ costs E 0
  unfolding cost first
  first-cost x z ex ez =
      tab-of (cost (rule64 E) 0) cells nan (set (replicate cells x) 0 z) (length-set (replicate cells x) 0 z ∙ length-replicate cells x) (λ k b. at k b)
    where
      at : (k : ℕ) → k < cells → get_or (set (replicate cells x) 0 z) k nan ≡ cost (rule64 E) 0 k
      at zero b = ez
      at (suc k) b = get_or-set_other (replicate cells x) 0 (suc k) z nan (suc-ne-zero k) ∙ get_or-replicate cells (suc k) x nan b ∙ ex

  pub first-pred : replicate cells 0 ≡ preds E 0
  unfolding from
  first-pred = tab-of (from (rule64 E) 0) cells 0 (replicate cells 0) (length-replicate {A = ℕ} cells 0) (λ k b. get_or-replicate cells k 0 0 b)

  -- as it ends
  pub last-cost : (n : ℕ) → n < cells → get_or (costs E n) n nan ≡ best (rule64 E) n
  last-cost n h = get_d-tab (cost (rule64 E) n) cells n nan h

  cost-at : (n k : ℕ) → n < cells → k ≤ n → get_or (costs E n) k nan ≡ best (rule64 E) k
  cost-at n k h b = get_d-tab (cost (rule64 E) n) cells k nan (omega arith) ∙ (settled-from (rule64 E) k n b).0

  pred-at : (n k : ℕ) → n < cells → k ≤ n → get_or (preds E n) k 0 ≡ pred (rule64 E) k
  pred-at n k h b = get_d-tab (from (rule64 E) n) cells k 0 (omega arith) ∙ (settled-from (rule64 E) k n b).1

  -- which beginnings have a cutting
  pub last_has : (n k : ℕ) → n < cells → k < n → lt (get_or (costs E n) (k + 1) nan) (inf false) ≡ lt (best (rule64 E) (suc k)) (inf false)
  last_has n k h b = rw add-one (ap (λ (x : Float). lt x (inf false)) (cost-at n (suc k) h b))

  -- the cutting that is read back
  pub last-falls : (n : ℕ) → n < cells → Falls (λ k. get_or (preds E n) k 0) n
  last-falls n h j p b = rw (pred-at n j h b) (pred_lt (rule64 E) j p)

  pub last-ends : (n : ℕ) → n < cells → back_of (λ k. get_or (preds E n) k 0) n n [] ≡ ends (rule64 E) n
  last-ends n h = agree (λ k. get_or (preds E n) k 0) (λ k. pred (rule64 E) k) n n n [] (last-falls n h) (λ k b. pred-at n k h b) (le_refl n)
