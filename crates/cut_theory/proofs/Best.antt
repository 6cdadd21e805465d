-- The table of `Cut` has the least cost at each j (`best-le`), the cutting that is read back from it has that cost (`ends-cut`, `ends-cost`), and of the starts that attain it the earliest is kept
-- (`pred-least`). The costs need an order only among the good ones, which are closed under `step`. Assumes nothing.
use Prim.Native.Nat.{ℕ, zero, suc, ◌<◌, ◌≤◌}
use native.Mathlib.Nat.{not-suc-le-zero, le_refl}
use native.Mathlib.Omega.{arith}
use native.Mathlib.Decide.{le_ind}
use mathlib.Core.Path.{◌≡◌, refl, sym, ap, subst, ◌∙◌}
use mathlib.Core.Bool.{Bool, true, false}
use mathlib.Core.List.{List, [], ◌∷◌}
use lib.Dec.{ltb}
use borrow.Author.Tests.{lt-ltb, ltb-true, ltb-false}
use Rattle.basics.proofs.TestLaws.{by-test, not-both}
use Rattle.basics.specs.Lists.{Rising}
use Rattle.cut_theory.specs.Cut.{Rule, end_of, Cut, walk, cost_of, Present, first, cost, from, best, pred, back_of, back, ends, Laws, cand, scan}

module _ {C : Type 0} (S : Rule C) where
  -- the row's test passes, or it does not
  pub data Row (i j : ℕ) : Type 0 where
    won : i < j → S.lower (cand S i j) (cost S i j) ≡ true → cost S (suc i) j ≡ cand S i j → from S (suc i) j ≡ i → Row i j
    kept : (i < j → S.lower (cand S i j) (cost S i j) ≡ false) → cost S (suc i) j ≡ cost S i j → from S (suc i) j ≡ from S i j → Row i j

  -- ---- what holds of the table for any costs: a row

  pub row : (i j : ℕ) → Row i j
  unfolding cost from
  row i j = go (ltb i j) (S.lower (cand S i j) (cost S i j)) refl refl
    where
      go : (a b : Bool) → ltb i j ≡ a → S.lower (cand S i j) (cost S i j) ≡ b → Row i j
      go true true p q = won (ltb-true i j p) q (rw (p, q) refl) (rw (p, q) refl)
      go true false p q = kept (λ h. q) (rw (p, q) refl) (rw (p, q) refl)
      go false b p q = kept (λ h. not-both (ltb i j) (lt-ltb i j h) p) (rw p refl) (rw p refl)

  -- a row from j on leaves what stands at j
  pub settled : (i j : ℕ) → j ≤ i → (cost S (suc i) j ≡ cost S i j) × (from S (suc i) j ≡ from S i j)
  settled i j h = go (row i j)
    where
      go : Row i j → (cost S (suc i) j ≡ cost S i j) × (from S (suc i) j ≡ from S i j)
      go (won k l c f) = absurd (lt-clash k)
        where
          lt-clash : i < j → ⊥
          lt-clash k = omega arith
      go (kept l c f) = (c, f)

  pub settled-from : (j k : ℕ) → j ≤ k → (cost S k j ≡ best S j) × (from S k j ≡ pred S j)
  settled-from j k h =
      le_ind (λ (m : ℕ). (cost S m j ≡ best S j) × (from S m j ≡ pred S j)) (refl, refl)
      (λ m l r. ((settled m j l).0 ∙ r.0, (settled m j l).1 ∙ r.1)) k h

  pub best-zero : best S 0 ≡ S.start
  unfolding cost first
  best-zero = refl

  -- a start lies below the rows that were tried
  pub from_le : (k j : ℕ) → from S k j ≤ k
  unfolding from
  from_le zero j = le_refl 0
  from_le (suc k) j = go (row k j) (from_le k j)
    where
      go : Row k j → from S k j ≤ k → from S (suc k) j ≤ suc k
      go (won h l c f) ih = rw f (omega arith)
      go (kept l c f) ih = rw f (omega arith)

  from-lt : (k j : ℕ) → from S (suc k) j < suc k
  from-lt k j = go (row k j) (from_le k j)
    where
      go : Row k j → from S k j ≤ k → from S (suc k) j < suc k
      go (won h l c f) ih = rw f (le_refl (suc k))
      go (kept l c f) ih = rw f (omega arith)

  pub pred_lt : (j : ℕ) → 0 < j → pred S j < j
  pred_lt zero h = absurd (not-suc-le-zero h)
  pred_lt (suc j) h = from-lt j (suc j)

  -- ---- the recurrence by beginnings

  scan-cost : (k j : ℕ) → k ≤ suc j → scan S k (suc j) ≡ cost S k (suc j)
  unfolding scan cost first
  scan-cost zero j h = refl
  scan-cost (suc k) j h = rw (lt-ltb k (suc j) h, scan-cost k j (omega arith)) refl

  pub best-scan : (j : ℕ) → best S (suc j) ≡ scan S (suc j) (suc j)
  best-scan j = sym (scan-cost (suc j) j (le_refl (suc j)))

module _ {C : Type 0} (S : Rule C) (Good : ℕ → C → Type 0) (L : Laws S Good) where
  -- a is at most b
  abbrev pub AtMost : C → C → Type 0
  AtMost a b = S.lower b a ≡ false

  pub irrefl : (j : ℕ) (a : C) → Good j a → AtMost a a
  irrefl j a g = by-test (S.lower a a) (λ h. L.asym j a a g g h) (λ h. h)

  -- lower than what is at most c is lower than c
  pub lower-le : (j : ℕ) (a b c : C) → Good j a → Good j b → Good j c → S.lower a b ≡ true → AtMost b c → S.lower a c ≡ true
  lower-le j a b c ga gb gc h k =
      by-test (S.lower a c) (λ t. t) (λ n. not-both (S.lower a b) h (L.neg-trans j b c a gb gc ga k n))

  pub le-lower : (j : ℕ) (a b c : C) → Good j a → Good j b → Good j c → AtMost a b → S.lower b c ≡ true → S.lower a c ≡ true
  le-lower j a b c ga gb gc h k =
      by-test (S.lower a c) (λ t. t) (λ n. not-both (S.lower b c) k (L.neg-trans j c a b gc ga gb n h))

  pub cost-good : (i j : ℕ) → Good j (cost S i j)
  unfolding cost first
  cost-good zero zero = L.start-good
  cost-good zero (suc j) = L.top-good (suc j)
  cost-good (suc i) j = go (row S i j) (cost-good i i) (cost-good i j)
    where
      go : Row S i j → Good i (best S i) → Good j (cost S i j) → Good j (cost S (suc i) j)
      go (won h l c f) gi gj = subst (Good j) (sym c) (L.step-good (best S i) i j h gi)
      go (kept l c f) gi gj = subst (Good j) (sym c) gj

  pub cand-good : (i j : ℕ) → i < j → Good j (cand S i j)
  cand-good i j h = L.step-good (best S i) i j h (cost-good i i)

  -- a row takes no cost up
  falls : (i j : ℕ) → AtMost (cost S (suc i) j) (cost S i j)
  falls i j = go (row S i j)
    where
      go : Row S i j → AtMost (cost S (suc i) j) (cost S i j)
      go (won h l c f) = rw c (L.asym j _ _ (cand-good i j h) (cost-good i j) l)
      go (kept l c f) = rw c (irrefl j _ (cost-good i j))

  -- and leaves at j at most its candidate
  tried : (i j : ℕ) → i < j → AtMost (cost S (suc i) j) (cand S i j)
  tried i j h = go (row S i j)
    where
      go : Row S i j → AtMost (cost S (suc i) j) (cand S i j)
      go (won h l c f) = rw c (irrefl j _ (cand-good i j h))
      go (kept l c f) = rw c (l h)

  falls-from : (i k j : ℕ) → i ≤ k → AtMost (cost S k j) (cost S i j)
  falls-from i k j h =
      le_ind (λ (m : ℕ). AtMost (cost S m j) (cost S i j)) (irrefl j _ (cost-good i j))
      (λ m _ r. L.neg-trans j _ _ _ (cost-good (suc m) j) (cost-good m j) (cost-good i j) (falls m j) r) k h

  -- ---- (a) nothing is lower than the best

  -- the best of j is at most what each run to j makes of the best at its start
  pub best-le-cand : (i j : ℕ) → i < j → AtMost (best S j) (cand S i j)
  best-le-cand i j h =
      L.neg-trans j _ _ _ (cost-good j j) (cost-good (suc i) j) (cand-good i j h) (falls-from (suc i) j j h) (tried i j h)

  pub walk-good : (c : C) (i : ℕ) (js : List ℕ) → Good i c → Rising i js → Good (end_of i js) (walk S c i js)
  walk-good c i [] g r = g
  walk-good c i (j ∷ js) g r = walk-good (S.step c i j) j js (L.step-good c i j r.0 g) r.1

  pub best-le-walk : (c : C) (i : ℕ) (js : List ℕ) → Good i c → AtMost (best S i) c → Rising i js → AtMost (best S (end_of i js)) (walk S c i js)
  best-le-walk c i [] g h r = h
  best-le-walk c i (j ∷ js) g h r =
      let gj = L.step-good c i j r.0 g in
      best-le-walk (S.step c i j) j js gj
      (L.neg-trans j _ _ _ (cost-good j j) (cand-good i j r.0) gj (best-le-cand i j r.0) (L.mono (best S i) c i j r.0 (cost-good i i) g h))
      r.1

  best-le-end : (js : List ℕ) → Rising 0 js → AtMost (best S (end_of 0 js)) (cost_of S js)
  best-le-end js r = best-le-walk S.start 0 js L.start-good (rw (best-zero S) (irrefl 0 S.start L.start-good)) r

  pub best-le : (n : ℕ) (js : List ℕ) → Cut n js → AtMost (best S n) (cost_of S js)
  best-le n js c = subst (λ (m : ℕ). AtMost (best S m) (cost_of S js)) c.1 (best-le-end js c.0)

  pub cost-of-good : (n : ℕ) (js : List ℕ) → Cut n js → Good n (cost_of S js)
  cost-of-good n js c = subst (λ (m : ℕ). Good m (cost_of S js)) c.1 (walk-good S.start 0 js L.start-good c.0)

  -- so where there is a cutting that can be had, the best can be had
  pub best-present : (n : ℕ) (js : List ℕ) → Cut n js → Present S (cost_of S js) → Present S (best S n)
  best-present n js c p = le-lower n _ _ _ (cost-good n n) (cost-of-good n js c) (L.top-good n) (best-le n js c) p

  -- ---- (b) the cutting that is read back has the best's cost

  top-absent : Present S S.top → ⊥
  top-absent p = not-both (S.lower S.top S.top) p (irrefl 0 S.top (L.top-good 0))

  -- what stands at j came from a row's candidate
  came : (k j : ℕ) → Present S (cost S k (suc j)) → (from S k (suc j) < k) × (cost S k (suc j) ≡ cand S (from S k (suc j)) (suc j))
  unfolding cost first
  came zero j p = absurd (top-absent p)
  came (suc k) j p = go (row S k (suc j)) (λ q. came k j q) p
    where
      go : Row S k (suc j) → (Present S (cost S k (suc j)) → (from S k (suc j) < k) × (cost S k (suc j) ≡ cand S (from S k (suc j)) (suc j)))
          → Present S (cost S (suc k) (suc j)) → (from S (suc k) (suc j) < suc k) × (cost S (suc k) (suc j) ≡ cand S (from S (suc k) (suc j)) (suc j))
      go (won h l c f) ih p = (rw f (le_refl (suc k)), rw (c, f) refl)
      go (kept l c f) ih p =
          let q : Present S (cost S k (suc j)) = rw c at p in
          let r = ih q in
          (rw f (up r.0), rw (c, f) r.1)
        where
          up : from S k (suc j) < k → from S k (suc j) < suc k
          up h = omega arith

  -- The last run of the best of j: it starts below j, and the best of j is what it makes of the best there, which can be had.
  pub last-run : (j : ℕ) → Present S (best S (suc j))
      → (pred S (suc j) < suc j) × (best S (suc j) ≡ cand S (pred S (suc j)) (suc j)) × Present S (best S (pred S (suc j)))
  last-run j p =
      let r = came (suc j) j p in
      let i = pred S (suc j) in (
        r.0,
        r.1,
        by-test (S.lower (best S i) S.top) (λ t. t)
            (λ n. not-both (S.lower (cand S i (suc j)) S.top) (rw r.1 at p) (L.strict (best S i) i (suc j) r.0 (cost-good i i) n)),
      )

  read_back : (f j : ℕ) (js : List ℕ) → j ≤ f → Present S (best S j) → Rising j js
      → Rising 0 (back S f j js) × (end_of 0 (back S f j js) ≡ end_of j js) × (cost_of S (back S f j js) ≡ walk S (best S j) j js)
  unfolding back_of
  read_back zero zero js h p r = (r, refl, rw (best-zero S) refl)
  read_back zero (suc j) js h p r = absurd (not-suc-le-zero h)
  read_back (suc f) zero js h p r = (r, refl, rw (best-zero S) refl)
  read_back (suc f) (suc j) js h p r =
      let l = last-run j p in
      let b = read_back f (pred S (suc j)) (suc j ∷ js) (below (pred S (suc j)) l.0 h) l.2 (l.0, r) in
      (b.0, b.1, b.2 ∙ ap (λ (c : C). walk S c (suc j) js) (sym l.1))
    where
      below : (i : ℕ) → i < suc j → suc j ≤ suc f → i ≤ f
      below i a b = omega arith

  pub ends-cut : (n : ℕ) → Present S (best S n) → Cut n (ends S n)
  ends-cut n p = let b = read_back n n [] (le_refl n) p tt in (b.0, b.1)

  pub ends-cost : (n : ℕ) → Present S (best S n) → cost_of S (ends S n) ≡ best S n
  ends-cost n p = (read_back n n [] (le_refl n) p tt).2

  -- ---- (c) of the starts that attain the best, the first is kept

  earlier : (k j i : ℕ) → k ≤ j → i < from S k j → S.lower (cost S k j) (cand S i j) ≡ true
  unfolding from
  earlier zero j i b h = absurd (not-suc-le-zero h)
  earlier (suc k) j i b h = go (row S k j) (λ g. earlier k j i (omega arith) g) h
    where
      under : from S (suc k) j ≡ k → i < from S (suc k) j → i < k
      under f h = omega arith

      at_most : i < k → i < j → AtMost (cost S k j) (cand S i j)
      at_most g g' = L.neg-trans j _ _ _ (cost-good k j) (cost-good (suc i) j) (cand-good i j g') (falls-from (suc i) k j g) (tried i j g')

      go : Row S k j → (i < from S k j → S.lower (cost S k j) (cand S i j) ≡ true) → i < from S (suc k) j → S.lower (cost S (suc k) j) (cand S i j) ≡ true
      go (won g l c f) ih h =
          let u = under f h in
          let v : i < j = omega arith in
          rw c (lower-le j _ _ _ (cand-good k j g) (cost-good k j) (cand-good i j v) l (at_most u v))
      go (kept l c f) ih h = rw c (ih (rw f at h))

  -- each start before the one that is kept makes more than the best
  pub pred-first : (j i : ℕ) → i < pred S j → S.lower (best S j) (cand S i j) ≡ true
  pred-first j i h = earlier j j i (le_refl j) h

  -- so the one that is kept is the least of those that attain the best
  pub pred-least : (j i : ℕ) → AtMost (cand S i j) (best S j) → pred S j ≤ i
  pred-least j i h =
      by-test (ltb i (pred S j))
      (λ t. not-both (S.lower (best S j) (cand S i j)) (pred-first j i (ltb-true i (pred S j) t)) h)
      (λ f. ltb-false i (pred S j) f)
