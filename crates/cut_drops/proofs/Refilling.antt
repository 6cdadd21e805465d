-- A table whose rows are filled again: the cells up to q stay, and a row below q that is offered to them once more changes nothing there. Then tables whose runs are the same up to q, which
-- have the same cells there. Assumes nothing.
use Prim.Native.Nat.{ℕ, zero, suc, ◌+◌, ◌<◌, ◌≤◌}
use native.Mathlib.Nat.{not-suc-le-zero}
use native.Mathlib.Decide.{le_ind}
use native.Mathlib.Numerals.{add-one}
use native.Mathlib.Omega.{arith}
use mathlib.Core.Path.{◌≡◌, refl, sym, ap, ◌∙◌}
use mathlib.Core.Bool.{true, false, cond, and-false}
use mathlib.Core.List.{List}
use lib.ListN.{length, get_or}
use lib.Dec.{ltb, leb}
use lib.Ieee.{Float, nan, inf}
use Rattle.whole.specs.Whole.{fl}
use borrow.Author.Tests.{le-ltb, ltb-true, leb-true, leb-false}
use Rattle.basics.proofs.TestLaws.{by-test, not-both}
use Rattle.cut_theory.specs.Cut.{Rule, first, puts, cost, from, cand}
use Rattle.cut_theory.specs.Cut as Cut
use Rattle.cut_theory.proofs.Best.{Row, won, kept, row, settled-from}
use Rattle.cut_theory.specs.Tab.{cells}
use Rattle.cut_theory.proofs.TabLaws.{tab-of, length-tab, get_d-tab}
use Rattle.cut_theory.proofs.FloatLaws.{lt-inf}
use Rattle.cut_theory.specs.Rows.{Legs, rule64, wins, made}
use Rattle.cut_theory.specs.Carried.{Carry, carried, carried_to, RowDone, RowsDone}
use Rattle.cut_drops.specs.Refill.{TableCleared, Fronted}
use Rattle.cut_table.specs.Table.{Table, Sized}
use Rattle.whole.proofs.LessThan.{lt-self, lt_trans}

-- ---- what stands at j is not above what a row has offered there

module _ {C : Type 0} (S : Rule C) (self : (a : C) → S.lower a a ≡ false) (through : (a b c : C) → S.lower a b ≡ true → S.lower b c ≡ true → S.lower a c ≡ true) where
  offered-once : (i j : ℕ) → i < j → S.lower (cand S i j) (cost S (suc i) j) ≡ false
  offered-once i j h = go (row S i j)
    where
      go : Row S i j → S.lower (cand S i j) (cost S (suc i) j) ≡ false
      go (won _ l c f) = rw c (self (cand S i j))
      go (kept l c f) = rw c (l h)

  stays-below : (i j k : ℕ) → S.lower (cand S i j) (cost S k j) ≡ false → S.lower (cand S i j) (cost S (suc k) j) ≡ false
  stays-below i j k r = go (row S k j)
    where
      go : Row S k j → S.lower (cand S i j) (cost S (suc k) j) ≡ false
      go (won _ l c f) = rw c (by-test (S.lower (cand S i j) (cand S k j)) (λ t. not-both (S.lower (cand S i j) (cost S k j)) (through _ _ _ t l) r) (λ n. n))
      go (kept l c f) = rw c r

  pub offered-before : (i j k : ℕ) → i < j → i < k → S.lower (cand S i j) (cost S k j) ≡ false
  offered-before i j k h b = le_ind (λ (m : ℕ). S.lower (cand S i j) (cost S m j) ≡ false) (offered-once i j h) (λ m _ r. stays-below i j m r) k b

by_order : {B : Type 0} (q j : ℕ) → (j ≤ q → B) → (q < j → B) → B
by_order q j l h = by-test (leb j q) (λ t. l (leb-true j q t)) (λ f. h (leb-false j q f))

-- ---- the rows below s are filled again behind q

pub record Refilling (E : Legs) (K : Carry Float) (q s : ℕ) (t : Table) : Type 0 where
  pub front : Fronted E K q t
  pub long : Sized t
  pub cost-behind : (j : ℕ) → q < j → j < cells → get_or t.cost j nan ≡ Cut.cost (rule64 E) s j
  pub far-behind : (j : ℕ) → q < j → j < cells → get_or t.far j nan ≡ carried (rule64 E) K s j
  pub pred-behind : (j : ℕ) → q < j → j < cells → get_or t.pred j 0 ≡ from (rule64 E) s j

module _ (E : Legs) (K : Carry Float) (q : ℕ) where
  -- all behind q is cleared
  pub refill-begins : K.start ≡ fl 0 → (old new : Table) → Fronted E K q old → TableCleared (q + 1) old new → Refilling E K q 0 new
  unfolding cost first carried from
  refill-begins z old new F C =
      let c = C.cost-cleared in
      let d = C.far-cleared in
      let p = C.pred-cleared in
      record {
        front =
            record {
              cost-final = λ j h. c.before j (omega arith) ∙ F.cost-final j h;
              far-final = λ j h. d.before j (omega arith) ∙ F.far-final j h;
              pred-final = λ j h. p.before j (omega arith) ∙ F.pred-final j h;
            };
        long = record { cost-long = c.long; far-long = d.long; pred-long = p.long };
        cost-behind = λ j h b. c.behind j (omega arith) b ∙ top j h;
        far-behind = λ j h b. d.behind j (omega arith) b ∙ sym z;
        pred-behind = λ j h b. p.behind j (omega arith) b;
      }
    where
      top : (j : ℕ) → q < j → inf false ≡ Cut.cost (rule64 E) 0 j
      top zero h = absurd (not-suc-le-zero h)
      top (suc j) h = refl

  -- what is carried to j stays from row j on
  carried-stays : (i j : ℕ) → j ≤ i → carried (rule64 E) K (suc i) j ≡ carried (rule64 E) K i j
  unfolding carried
  carried-stays i j h = rw (le-ltb i j h) refl

  pub carried_from : (j k : ℕ) → j ≤ k → carried (rule64 E) K k j ≡ carried_to (rule64 E) K j
  carried_from j k h = le_ind (λ (m : ℕ). carried (rule64 E) K m j ≡ carried_to (rule64 E) K j) refl (λ m l r. carried-stays m j l ∙ r) k h

  -- the rows below q are all filled
  pub refill-ends : (t : Table) → Refilling E K q q t → RowsDone E K q t.cost t.far t.pred
  refill-ends t R =
      record {
        costs-are =
            tab-of (Cut.cost (rule64 E) q) cells nan t.cost R.long.cost-long
            (λ j b. by_order q j (λ h. R.front.cost-final j h ∙ sym (settled-from (rule64 E) j q h).0) (λ h. R.cost-behind j h b));
        fars-are =
            tab-of (carried (rule64 E) K q) cells nan t.far R.long.far-long
            (λ j b. by_order q j (λ h. R.front.far-final j h ∙ sym (carried_from j q h)) (λ h. R.far-behind j h b));
        preds-are =
            tab-of (from (rule64 E) q) cells 0 t.pred R.long.pred-long
            (λ j b. by_order q j (λ h. R.front.pred-final j h ∙ sym (settled-from (rule64 E) j q h).1) (λ h. R.pred-behind j h b));
      }

  module _ (s : ℕ) (b : s < q) (old : Table) (R : Refilling E K q s old) where
    -- row s offers what it offers in the table
    made-is : (j : ℕ) → made E s old.cost j ≡ cand (rule64 E) s j
    made-is j = rw (R.front.cost-final s (omega arith)) refl

    -- up to q it wins nothing
    wins-low : (j : ℕ) → j ≤ q → wins E s old.cost j ≡ false
    wins-low j h =
        rw (made-is j, R.front.cost-final j h)
        (by-test (ltb s j) (λ t. rw t (offered-before (rule64 E) lt-self lt_trans s j j (ltb-true s j t) (ltb-true s j t))) (λ f. rw f refl))

    wins-high : (j : ℕ) → q < j → j < cells → wins E s old.cost j ≡ puts (rule64 E) s j (cand (rule64 E) s j) (Cut.cost (rule64 E) s j)
    wins-high j h c = rw (made-is j, R.cost-behind j h c) refl

    module _ (new : Table) (D : RowDone E K s old.cost old.far old.pred new.cost new.far new.pred) where
      abbrev won-at : {A : Type 0} → ℕ → A → A → A
      won-at j x y = cond (wins E s old.cost j) x y

      cost-at : (j : ℕ) → j < cells → get_or new.cost j nan ≡ won-at j (made E s old.cost j) (get_or old.cost j nan)
      cost-at j c = ap (λ (l : List Float). get_or l j nan) D.cost-is ∙ get_d-tab _ cells j nan c

      far_at : (j : ℕ) → j < cells → get_or new.far j nan ≡ won-at j (K.step (get_or old.far s nan) s j) (get_or old.far j nan)
      far_at j c = ap (λ (l : List Float). get_or l j nan) D.far-is ∙ get_d-tab _ cells j nan c

      pred-at : (j : ℕ) → j < cells → get_or new.pred j 0 ≡ won-at j s (get_or old.pred j 0)
      pred-at j c = ap (λ (l : List ℕ). get_or l j 0) D.pred-is ∙ get_d-tab _ cells j 0 c

      -- row s is filled again
      pub refill-row : q < cells → Refilling E K q (s + 1) new
      unfolding Cut.cost carried from
      refill-row f =
          rw add-one
          (record {
            front =
                record {
                  cost-final = λ j h. cost-at j (omega arith) ∙ rw (wins-low j h) (R.front.cost-final j h);
                  far-final = λ j h. far_at j (omega arith) ∙ rw (wins-low j h) (R.front.far-final j h);
                  pred-final = λ j h. pred-at j (omega arith) ∙ rw (wins-low j h) (R.front.pred-final j h);
                };
            long =
                record {
                  cost-long = ap length D.cost-is ∙ length-tab _ cells;
                  far-long = ap length D.far-is ∙ length-tab _ cells;
                  pred-long = ap length D.pred-is ∙ length-tab _ cells;
                };
            cost-behind = λ j h c. cost-at j c ∙ rw (wins-high j h c, made-is j, R.cost-behind j h c) refl;
            far-behind = λ j h c. far_at j c ∙ rw (wins-high j h c, R.far-behind j h c, R.front.far-final s (omega arith)) refl;
            pred-behind = λ j h c. pred-at j c ∙ rw (wins-high j h c, R.pred-behind j h c) refl;
          })

    -- row s has no legal run that ends behind q: it may be passed over
    pub refill-passed : ((j : ℕ) → q < j → E.legal s j ≡ false) → Refilling E K q (s + 1) old
    unfolding Cut.cost carried from
    refill-passed z =
        rw add-one
        (record {
          front = R.front;
          long = R.long;
          cost-behind = λ j h c. R.cost-behind j h c ∙ rw (no-win j h) refl;
          far-behind = λ j h c. R.far-behind j h c ∙ rw (no-win j h) refl;
          pred-behind = λ j h c. R.pred-behind j h c ∙ rw (no-win j h) refl;
        })
      where
        no-win : (j : ℕ) → q < j → puts (rule64 E) s j (cand (rule64 E) s j) (Cut.cost (rule64 E) s j) ≡ false
        no-win j h = rw (z j h, lt-inf (Cut.cost (rule64 E) s j)) (and-false (ltb s j))

-- ---- tables whose runs are the same up to q

module _ (E F : Legs) (q : ℕ) (same : (c : Float) (i j : ℕ) → i < j → j ≤ q → (rule64 E).step c i j ≡ (rule64 F).step c i j) where
  pub cost-same : (i j : ℕ) → j ≤ q → Cut.cost (rule64 E) i j ≡ Cut.cost (rule64 F) i j
  unfolding Cut.cost first
  cost-same zero zero h = refl
  cost-same zero (suc j) h = refl
  cost-same (suc i) j h =
      by-test (ltb i j)
      (λ t. let l = ltb-true i j t in rw (cost-same i i (omega arith), cost-same i j h, same (Cut.cost (rule64 F) i i) i j l h) refl)
      (λ f. rw f (cost-same i j h))

  puts-same : (i j : ℕ) → j ≤ q
      → puts (rule64 E) i j (cand (rule64 E) i j) (Cut.cost (rule64 E) i j) ≡ puts (rule64 F) i j (cand (rule64 F) i j) (Cut.cost (rule64 F) i j)
  puts-same i j h =
      by-test (ltb i j)
      (λ t. let l = ltb-true i j t in rw (cost-same i i (omega arith), cost-same i j h, same (Cut.cost (rule64 F) i i) i j l h) refl)
      (λ f. rw f refl)

  pub from-same : (i j : ℕ) → j ≤ q → from (rule64 E) i j ≡ from (rule64 F) i j
  unfolding from
  from-same zero j h = refl
  from-same (suc i) j h = rw (puts-same i j h, from-same i j h) refl

  module _ (K L : Carry Float) (start : K.start ≡ L.start) (step : (d : Float) (i j : ℕ) → i < j → j ≤ q → K.step d i j ≡ L.step d i j) where
    pub carried_same : (i j : ℕ) → j ≤ q → carried (rule64 E) K i j ≡ carried (rule64 F) L i j
    unfolding carried
    carried_same zero j h = start
    carried_same (suc i) j h =
        by-test (ltb i j)
        (λ t. let l = ltb-true i j t in rw (puts-same i j h, carried_same i i (omega arith), carried_same i j h, step (carried (rule64 F) L i i) i j l h) refl)
        (λ f. rw f (carried_same i j h))

    -- cells of the one that are final are final in the other
    pub front_same : (n : ℕ) → q ≤ n → n < cells → (t : Table) → RowsDone E K n t.cost t.far t.pred → Fronted F L q t
    front_same n b c t D =
        record {
          cost-final =
              λ j h.
              ap (λ (l : List Float). get_or l j nan) D.costs-are ∙ get_d-tab _ cells j nan (omega arith)
              ∙ (settled-from (rule64 E) j n (omega arith)).0 ∙ cost-same j j h;
          far-final =
              λ j h.
              ap (λ (l : List Float). get_or l j nan) D.fars-are ∙ get_d-tab _ cells j nan (omega arith)
              ∙ carried_from E K q j n (omega arith) ∙ carried_same j j h;
          pred-final =
              λ j h.
              ap (λ (l : List ℕ). get_or l j 0) D.preds-are ∙ get_d-tab _ cells j 0 (omega arith)
              ∙ (settled-from (rule64 E) j n (omega arith)).1 ∙ from-same j j h;
        }
