-- The rows below q of the calls held, filled again one after the other: what the loop keeps, for whatever tables the lists are worked out from. Assumes nothing.
use Prim.Native.Nat.{ℕ, ◌+◌, ◌-◌, ◌<◌, ◌≤◌}
use native.Mathlib.Omega.{arith}
use mathlib.Core.Path.{◌≡◌, refl, sym, ap, subst, ◌∙◌}
use mathlib.Core.Bool.{false}
use mathlib.Core.List.{List}
use lib.ListN.{length, get_or, set, drop, length-drop}
use lib.Seq.{get_or-set_other}
use lib.Dec.{eqb}
use borrow.Author.Tests.{eqb-true, eqb-false}
use Rattle.basics.proofs.TestLaws.{by-test}
use Rattle.cut_theory.specs.Tab.{most_cut, cells}
use Rattle.cut_table.specs.Table.{Table}
use Rattle.evaluation.specs.Records.{Tables}
use Rattle.cut_stops.specs.Stops.{StopsOf, LegsAre}
use Rattle.cut_runs.specs.Tariff.{Tariff, stretches, legal_of, runs_of, fars_of, Ended}
use Rattle.cut_runs.specs.Runs.{Instance, tariff, RowLists}
use Rattle.cut_drops.specs.Refill.{Rows, TableCleared, Reached, NotedRow, ReachedBelow, EarlyBelow, Noted, Refilled}
use Rattle.cut_drops.proofs.Refilling.{Refilling, refill-begins, refill-ends, refill-row, refill-passed}

-- ---- how far the rows go

-- a place of `reach` that stays
pub same-reached : (T : Tariff) (held reach reach' : List ℕ) (s : ℕ) → get_or reach' s 0 ≡ get_or reach s 0 → Reached T held reach s → Reached T held reach' s
same-reached T held reach reach' s e R = subst (λ (r : ℕ). Ended T (drop s held) (r - s)) (sym e) R

-- what a row notes leaves the other places
other_place : (reach reach' : List ℕ) (i s v : ℕ) → reach' ≡ set reach i v → (s ≡ i → ⊥) → get_or reach' s 0 ≡ get_or reach s 0
other_place reach reach' i s v e n = ap (λ (l : List ℕ). get_or l s 0) e ∙ get_or-set_other reach i s v 0 n

module _ (T : Tariff) (held : List ℕ) (i : ℕ) (old new : Rows) (N : NotedRow T held i old new) where
  -- a property of each place, by whether the place is that of the row
  by_place : (s : ℕ) → ((s ≡ i → ⊥) → Reached T held old.reach s) → Reached T held new.reach s
  by_place s R =
      by-test (eqb s i) (λ t. subst (λ (k : ℕ). Reached T held new.reach k) (sym (eqb-true s i t)) N.reached)
      (λ f. let n = eqb-false s i f in same-reached T held old.reach new.reach s (other_place old.reach new.reach i s _ N.put n) (R n))

  pub reached-more : ReachedBelow T held i old.reach → ReachedBelow T held (i + 1) new.reach
  reached-more R s h = by_place s (λ n. R s (left s h n))
    where
      left : (s : ℕ) → s < i + 1 → (s ≡ i → ⊥) → s < i
      left s h n = omega arith

  early-more : (q : ℕ) → EarlyBelow T held q old.reach → EarlyBelow T held q new.reach
  early-more q R s h l =
      by_place s (λ n. R s h (subst (λ (r : ℕ). r < q) (other_place old.reach new.reach i s _ N.put n) l))

-- a row that ended before q has no legal run that ends behind q
no_longer : (T : Tariff) (held reach : List ℕ) (q s : ℕ) → q ≤ length held → s < q → get_or reach s 0 < q → Reached T held reach s
    → (j : ℕ) → q < j → legal_of T (drop s held) (j - s) ≡ false
no_longer T held reach q s b h l R j g = R.barred (omega (arith, length-drop s held)) (drop s held) refl (j - s) (omega arith)

-- ---- the loop

abbrev RefillingOf : Tariff → List ℕ → ℕ → ℕ → Table → Type 0
RefillingOf T held q s = Refilling (runs_of T (stretches held)) (fars_of T (stretches held)) q s

module _ (I : Tables → Instance) (x : RowLists) (q : ℕ) where
  -- what is known after the rows below s
  pub record Kept (t : Tables) (s : ℕ) (r : Rows) : Type 0 where
    pub filled : RefillingOf (tariff (I t)) x.held q s r.table
    pub reached : ReachedBelow (tariff (I t)) x.held s r.reach
    pub early : EarlyBelow (tariff (I t)) x.held q r.reach

  -- from the rows `from`, whose table is cleared behind q
  unfoldable pub Again : ℕ → Rows → Rows → Type 0
  Again s from r = (t : Tables) → StopsOf t x.held x.stops → LegsAre t x.held x.legs → Kept t 0 from → Kept t s r

  module _ (from : Rows) where
    pub none-again : Again 0 from from
    unfolding Again
    none-again t W L k = k

    module _ (s : ℕ) (b : s < q) (inside : q ≤ length x.held) (few : length x.held ≤ most_cut) (old : Rows) (A : Again s from old) where
      -- row s is filled
      pub row-again : (new : Rows) → Noted I x s old new → Again (s + 1) from new
      unfolding Again Noted
      row-again new N t W L k =
          let a = A t W L k in
          let n = N t W L in
          record {
            filled = refill-row _ _ q s b old.table a.filled new.table n.done (omega arith);
            reached = reached-more (tariff (I t)) x.held s old new n a.reached;
            early = early-more (tariff (I t)) x.held s old new n q a.early;
          }

      -- or it ended before q
      pub row-passed : get_or old.reach s 0 < q → Again (s + 1) from old
      unfolding Again
      row-passed l t W L k =
          let a = A t W L k in
          let e = a.early s b l in
          record {
            filled = refill-passed _ _ q s b old.table a.filled (λ j h. no_longer (tariff (I t)) x.held old.reach q s inside b l e j h);
            reached =
                λ r h.
                by-test (eqb r s) (λ y. subst (λ (k : ℕ). Reached (tariff (I t)) x.held old.reach k) (sym (eqb-true r s y)) e)
                (λ f. a.reached r (left r h (eqb-false r s f)));
            early = a.early;
          }
        where
          left : (r : ℕ) → r < s + 1 → (r ≡ s → ⊥) → r < s
          left r h n = omega arith

    -- all rows are
    pub all-again : (old : Table) (new : Rows) → TableCleared (q + 1) old from.table → length new.reach ≡ cells → (s : ℕ) → s ≡ q → Again s from new
        → Refilled I x q (record { table = old; reach = from.reach }) new
    unfolding Again Refilled
    all-again old new C l s e A t W L F early =
        let begun : Kept t 0 from = record { filled = refill-begins _ _ q refl old from.table F C; reached = λ r h. absurd (clash r h); early = early } in
        let k = subst (λ (r : ℕ). Kept t r new) e (A t W L begun) in
        (refill-ends _ _ q new.table k.filled, k.reached, l)
      where
        clash : (r : ℕ) → r < 0 → ⊥
        clash r h = omega arith
