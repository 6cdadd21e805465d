-- Where the best can be had, what is carried there is the fold of its steps over the ends that are read back (`carried-ends`).
-- Then, at `f64`, how an array that code fills beside the costs and their starts comes to it. Nothing is asked of the numbers. Assumes nothing.
use Prim.Native.Nat.{ℕ, zero, suc, ◌+◌, ◌<◌, ◌≤◌}
use native.Mathlib.Nat.{not-suc-le-zero, le_refl}
use native.Mathlib.Numerals.{add-one}
use native.Mathlib.Omega.{arith}
use mathlib.Core.Path.{◌≡◌, refl, sym, ap, ◌∙◌}
use mathlib.Core.Bool.{true, false, cond, and-false, false≢true}
use mathlib.Core.List.{List, [], ◌∷◌}
use lib.ListN.{length, get_or, set, replicate, length-replicate, get_or-replicate}
use lib.Ieee.{Float, nan, inf, lt}
use Rattle.basics.proofs.TestLaws.{by-test, not-both}
use Rattle.cut_theory.specs.Cut.{Rule, Present, puts, first, cost, from, best, pred, back_of, back, ends, cand}
use Rattle.cut_theory.proofs.Best.{pred_lt}
use Rattle.cut_theory.specs.Tab.{cells, tab}
use Rattle.cut_theory.proofs.TabLaws.{tab-of, length-tab, get_d-tab}
use Rattle.cut_theory.proofs.FillLaws.{begun, ended, untouched, one_more}
use Rattle.cut_theory.proofs.FloatLaws.{lt-inf}
use Rattle.cut_theory.specs.Rows.{Legs, Strict, rule64, row_cost, row_pred, costs, preds}
use Rattle.cut_theory.proofs.RowLaws as Rows
use Rattle.cut_theory.specs.Carried.{Carry, carry_all, carried, carried_to, carry_fill, row_carried, carries, Filling, RowDone, RowsDone}

-- ---- over any costs

module _ {C D : Type 0} (S : Rule C) (K : Carry D) where
  -- what cannot be done is not lower than itself, and no run after it can be done
  module _ (none : S.lower S.top S.top ≡ false) (strict : (i j : ℕ) → i < j → S.lower (best S i) S.top ≡ false → S.lower (cand S i j) S.top ≡ false) where
    -- the cost and what is carried came from one row
    came : (k j : ℕ) → Present S (cost S k (suc j))
        → (cost S k (suc j) ≡ cand S (from S k (suc j)) (suc j)) × (carried S K k (suc j) ≡ K.step (carried_to S K (from S k (suc j))) (from S k (suc j)) (suc j))
    unfolding cost first from carried
    came zero j p = not-both (S.lower S.top S.top) p none
    came (suc k) j p =
        by-test (puts S k (suc j) (cand S k (suc j)) (cost S k (suc j))) (λ t. rw t (refl, refl))
        (λ f. rw f (came k j (rw f at p)))

    last : (j : ℕ) → Present S (best S (suc j)) → Present S (best S (pred S (suc j)))
    last j p =
        let i = pred S (suc j) in
        by-test (S.lower (best S i) S.top) (λ t. t)
        (λ f. not-both (S.lower (cand S i (suc j)) S.top) (rw (came (suc j) j p).0 at p) (strict i (suc j) (pred_lt S (suc j) (omega arith)) f))

    read_back : (f j : ℕ) (js : List ℕ) → j ≤ f → Present S (best S j) → carry_all K K.start 0 (back S f j js) ≡ carry_all K (carried_to S K j) j js
    unfolding back_of carried
    read_back zero zero js h p = refl
    read_back zero (suc j) js h p = absurd (not-suc-le-zero h)
    read_back (suc f) zero js h p = refl
    read_back (suc f) (suc j) js h p =
        read_back f (pred S (suc j)) (suc j ∷ js) (omega (arith, pred_lt S (suc j) (omega arith))) (last j p)
        ∙ ap (λ (d : D). carry_all K d (suc j) js) (sym (came (suc j) j p).1)

    pub carried-ends : (n : ℕ) → Present S (best S n) → carry_all K K.start 0 (ends S n) ≡ carried_to S K n
    carried-ends n p = read_back n n [] (le_refl n) p

-- ---- at `f64`: the array of what is carried

module _ (E : Legs) (K : Carry Float) (i : ℕ) (costs fars : List Float) (preds : List ℕ) where
  -- before the first cell
  pub outset : length costs ≡ cells → length fars ≡ cells → length preds ≡ cells → Filling E K i costs fars preds i costs fars preds
  outset lc lf lp =
      record {
        in_cells = Rows.outset E i costs preds lc lp;
        is-far = begun (carry_fill E K i costs fars) cells i nan fars lf (λ k. refl) (Rows.won-low E i costs preds);
      }

  module _ (j : ℕ) (cost far : List Float) (pred : List ℕ) (A : Filling E K i costs fars preds j cost far pred) where
    -- no run that ends past j is legal: the row is done
    pub finished : ((k : ℕ) → j < k → E.legal i k ≡ false) → RowDone E K i costs fars preds cost far pred
    finished z =
        let d = Rows.finished E i costs preds j cost pred A.in_cells z in
        record {
          cost-is = d.0;
          far-is = A.is-far ∙ ended (carry_fill E K i costs fars) cells j (λ k h. Rows.won-barred E i costs preds k (z k h));
          pred-is = d.1;
        }

    -- the run to the next cell is not legal: it is passed over
    pub passed : (k : ℕ) → k ≡ suc j → k < cells → E.legal i k ≡ false → Filling E K i costs fars preds k cost far pred
    passed k e b z =
        record {
          in_cells = Rows.passed E i costs preds j cost pred A.in_cells k e b z;
          is-far = A.is-far ∙ one_more (carry_fill E K i costs fars) cells j k false nan e b (Rows.won-barred E i costs preds k z) (λ t. absurd (false≢true t));
        }

    -- the run to the next cell is legal: the plain test
    pub offered : (k : ℕ) (new put : Float) → k ≡ suc j → k < cells → i < k → E.legal i k ≡ true
        → new ≡ E.ext (get_or costs i nan) i k → put ≡ K.step (get_or fars i nan) i k
        → (cost' far' : List Float) (pred' : List ℕ)
        → cost' ≡ cond (lt new (get_or cost k nan)) (set cost k new) cost
        → far' ≡ cond (lt new (get_or cost k nan)) (set far k put) far
        → pred' ≡ cond (lt new (get_or cost k nan)) (set pred k i) pred
        → Filling E K i costs fars preds k cost' far' pred'
    offered k new put e b low z en ef cost' far' pred' ec eg ep =
        let t = lt new (get_or cost k nan) in
        record {
          in_cells = Rows.offered E i costs preds j cost pred A.in_cells k new e b low z en cost' pred' ec ep;
          is-far =
              eg ∙ ap (λ (l : List Float). cond t (set l k put) l) A.is-far
              ∙ one_more (carry_fill E K i costs fars) cells j k t put e b (Rows.test-is E i costs preds j cost pred A.in_cells k new e b low z en) (λ _. sym ef);
        }

  -- a row whose start is not reached puts nothing, so code may pass it over
  pub skipped : Strict E → lt (get_or costs i nan) (inf false) ≡ false → length costs ≡ cells → length fars ≡ cells → length preds ≡ cells
      → RowDone E K i costs fars preds costs fars preds
  skipped strict un lc lf lp =
      let d = Rows.skipped E strict i costs preds un lc lp in
      record {
        cost-is = d.0;
        far-is = untouched (carry_fill E K i costs fars) cells nan fars lf (λ k. refl) (Rows.unreached E strict i costs preds un);
        pred-is = d.1;
      }

module _ (E : Legs) (K : Carry Float) where
  next-far : (i : ℕ) → i < cells → tab (row_carried E K i (costs E i) (carries E K i)) cells ≡ carries E K (i + 1)
  unfolding carried
  next-far i h =
      rw add-one
      (tab-of (carried (rule64 E) K (suc i)) cells nan (tab (row_carried E K i (costs E i) (carries E K i)) cells) (length-tab (row_carried E K i (costs E i) (carries E K i)) cells)
      (λ k b. get_d-tab (row_carried E K i (costs E i) (carries E K i)) cells k nan b
      ∙ rw (
        get_d-tab (cost (rule64 E) i) cells k nan b,
        get_d-tab (cost (rule64 E) i) cells i nan h,
        get_d-tab (carried (rule64 E) K i) cells k nan b,
        get_d-tab (carried (rule64 E) K i) cells i nan h,
      ) refl))

  -- a row takes the table on
  pub next : (i : ℕ) → i < cells → (cost far : List Float) (pred : List ℕ) → RowsDone E K i cost far pred
      → (cost' far' : List Float) (pred' : List ℕ) → RowDone E K i cost far pred cost' far' pred' → RowsDone E K (i + 1) cost' far' pred'
  next i h cost far pred A cost' far' pred' D =
      record {
        costs-are = D.cost-is ∙ ap (λ (x : List Float). tab (row_cost E i x) cells) A.costs-are ∙ Rows.next-cost E i h;
        fars-are =
            D.far-is ∙ ap (λ (x : List Float). tab (row_carried E K i x far) cells) A.costs-are
            ∙ ap (λ (x : List Float). tab (row_carried E K i (costs E i) x) cells) A.fars-are
            ∙ next-far i h;
        preds-are =
            D.pred-is ∙ ap (λ (x : List Float). tab (row_pred E i x pred) cells) A.costs-are
            ∙ ap (λ (x : List ℕ). tab (row_pred E i (costs E i) x) cells) A.preds-are
            ∙ Rows.next-pred E i h;
      }

  first-far : (x : Float) → x ≡ K.start → replicate cells x ≡ carries E K 0
  unfolding carried
  first-far x e =
      tab-of (carried (rule64 E) K 0) cells nan (replicate cells x) (length-replicate {A = Float} cells x) (λ k b. get_or-replicate cells k x nan b ∙ e)

  -- as it starts
  pub none_done : (x z d : Float) → x ≡ inf false → z ≡ (rule64 E).start → d ≡ K.start → RowsDone E K 0 (set (replicate cells x) 0 z) (replicate cells d) (replicate cells 0)
  none_done x z d ex ez ed = record { costs-are = Rows.first-cost E x z ex ez; fars-are = first-far d ed; preds-are = Rows.first-pred E }

  -- as it ends
  pub last-far : (n : ℕ) → n < cells → get_or (carries E K n) n nan ≡ carried_to (rule64 E) K n
  last-far n h = get_d-tab (carried (rule64 E) K n) cells n nan h

-- so what is carried with the best of the first n calls, where that can be had, is the fold over the ends that are read back
pub far-ends : {D : Type 0} (E : Legs) (K : Carry D) → Strict E → (n : ℕ) → lt (best (rule64 E) n) (inf false) ≡ true → carry_all K K.start 0 (ends (rule64 E) n) ≡ carried_to (rule64 E) K n
far-ends E K strict n p = carried-ends (rule64 E) K (lt-inf (inf false)) (λ i j _ h. none_after i j h) n p
  where
    none_after : (i j : ℕ) → lt (best (rule64 E) i) (inf false) ≡ false → lt (cand (rule64 E) i j) (inf false) ≡ false
    none_after i j h = rw (strict (best (rule64 E) i) i j h, and-false (E.legal i j)) (lt-inf (inf false))
