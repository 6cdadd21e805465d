-- No legal cutting of the first n calls comes to less than the best (`least`, `there`), the cutting that is read back is legal and comes to just that (`attained`), and of the starts of its last run
-- that come to no more the earliest is kept (`earliest`). Assumes nothing.
use Prim.Native.Nat.{ℕ, ◌<◌, ◌≤◌}
use mathlib.Core.Path.{◌≡◌, refl, sym, ap, subst, ◌∙◌}
use mathlib.Core.Bool.{Bool, true, false}
use mathlib.Core.List.{List, [], ◌∷◌}
use Rattle.basics.proofs.TestLaws.{by-test, not-both}
use Rattle.basics.specs.Lists.{Rising}
use Rattle.cut_theory.specs.Cut.{Rule, end_of, Cut, walk, Present, best, pred, ends, Laws}
use Rattle.cut_theory.proofs.Best as B
use Rattle.cut_theory.specs.Runs.{Runs, step_of, rule_of, LegalFrom, LegalCut, sum_from, sum_of, RunLaws}

-- the step is the run's sum where that is legal and below `top`, and else `top`
module _ {C : Type 0} (R : Runs C) where
  pub data Stepped (c : C) (i j : ℕ) : Type 0 where
    on : R.legal i j ≡ true → R.lower (R.ext c i j) R.top ≡ true → step_of R c i j ≡ R.ext c i j → Stepped c i j
    barred : R.legal i j ≡ false → step_of R c i j ≡ R.top → Stepped c i j
    over : R.legal i j ≡ true → R.lower (R.ext c i j) R.top ≡ false → step_of R c i j ≡ R.top → Stepped c i j

  pub stepped : (c : C) (i j : ℕ) → Stepped c i j
  stepped c i j = go (R.legal i j) (R.lower (R.ext c i j) R.top) refl refl
    where
      go : (a b : Bool) → R.legal i j ≡ a → R.lower (R.ext c i j) R.top ≡ b → Stepped c i j
      go true true p q = on p q (rw (p, q) refl)
      go true false p q = over p q (rw (p, q) refl)
      go false b p q = barred p (rw p refl)

module _ {C : Type 0} (R : Runs C) (Good : ℕ → C → Type 0) (L : RunLaws R Good) where
  top-top : R.lower R.top R.top ≡ false
  top-top = L.at-most-top 0 R.top (L.top-good 0)

  step-good : (a : C) (i j : ℕ) → i < j → Good i a → Good j (step_of R a i j)
  step-good a i j b g = go (stepped R a i j)
    where
      go : Stepped R a i j → Good j (step_of R a i j)
      go (on p q e) = subst (Good j) (sym e) (L.ext-good a i j b p g)
      go (barred p e) = subst (Good j) (sym e) (L.top-good j)
      go (over p q e) = subst (Good j) (sym e) (L.top-good j)

  lower-of-le : (j : ℕ) (a b c : C) → Good j a → Good j b → Good j c → R.lower b a ≡ false → R.lower b c ≡ true → R.lower a c ≡ true
  lower-of-le j a b c ga gb gc h k = by-test (R.lower a c) (λ t. t) (λ n. not-both (R.lower b c) k (L.neg-trans j c a b gc ga gb n h))

  step-mono : (a b : C) (i j : ℕ) → i < j → Good i a → Good i b → R.lower b a ≡ false → R.lower (step_of R b i j) (step_of R a i j) ≡ false
  step-mono a b i j o ga gb h = go (stepped R a i j) (stepped R b i j)
    where
      go : Stepped R a i j → Stepped R b i j → R.lower (step_of R b i j) (step_of R a i j) ≡ false
      go s (barred p e) = rw e (L.at-most-top j _ (step-good a i j o ga))
      go s (over p q e) = rw e (L.at-most-top j _ (step-good a i j o ga))
      go (on p q e) (on p' q' e') = rw (e, e') (L.mono a b i j o p ga gb h)
      go (barred p e) (on p' q' e') = not-both (R.legal i j) p' p
      go (over p q e) (on p' q' e') =
          not-both (R.lower (R.ext a i j) R.top)
          (lower-of-le j _ _ _ (L.ext-good a i j o p ga) (L.ext-good b i j o p gb) (L.top-good j) (L.mono a b i j o p ga gb h) q') q

  step-strict : (a : C) (i j : ℕ) → i < j → Good i a → R.lower a R.top ≡ false → R.lower (step_of R a i j) R.top ≡ false
  step-strict a i j o g h = go (stepped R a i j)
    where
      go : Stepped R a i j → R.lower (step_of R a i j) R.top ≡ false
      go (on p q e) = not-both (R.lower (R.ext a i j) R.top) q (L.strict a i j o p g h)
      go (barred p e) = rw e top-top
      go (over p q e) = rw e top-top

  pub laws : Laws (rule_of R) Good
  laws =
      record {
        asym = L.asym;
        neg-trans = L.neg-trans;
        start-good = L.start-good;
        top-good = L.top-good;
        step-good = step-good;
        at-most-top = L.at-most-top;
        mono = step-mono;
        strict = step-strict;
      }

  sum-good : (c : C) (i : ℕ) (js : List ℕ) → Good i c → LegalFrom R i js → Good (end_of i js) (sum_from R c i js)
  sum-good c i [] g l = g
  sum-good c i (j ∷ js) g l = sum-good (R.ext c i j) j js (L.ext-good c i j l.0 l.1 g) l.2

  -- ---- (a) no legal cutting comes to less than the best

  step-le-ext : (c : C) (i j : ℕ) → i < j → Good i c → R.legal i j ≡ true → R.lower (R.ext c i j) (step_of R c i j) ≡ false
  step-le-ext c i j o g h = go (stepped R c i j)
    where
      go : Stepped R c i j → R.lower (R.ext c i j) (step_of R c i j) ≡ false
      go (on p q e) = rw e (B.irrefl (rule_of R) Good laws j (R.ext c i j) (L.ext-good c i j o h g))
      go (barred p e) = not-both (R.legal i j) h p
      go (over p q e) = rw e q

  walk-le-sum : (c d : C) (i : ℕ) (js : List ℕ) → Good i c → Good i d → R.lower d c ≡ false → LegalFrom R i js
      → R.lower (sum_from R d i js) (walk (rule_of R) c i js) ≡ false
  walk-le-sum c d i [] gc gd h l = h
  walk-le-sum c d i (j ∷ js) gc gd h l =
      let gc' = step-good c i j l.0 gc in
      let gd' = step-good d i j l.0 gd in
      let ge = L.ext-good d i j l.0 l.1 gd in
      walk-le-sum (step_of R c i j) (R.ext d i j) j js gc' ge
      (L.neg-trans j _ _ _ gc' gd' ge (step-mono c d i j l.0 gc gd h) (step-le-ext d i j l.0 gd l.1))
      l.2

  rising-of : (i : ℕ) (js : List ℕ) → LegalFrom R i js → Rising i js
  rising-of i [] l = tt
  rising-of i (j ∷ js) l = (l.0, rising-of j js l.2)

  sum-of-good : (n : ℕ) (js : List ℕ) → LegalCut R n js → Good n (sum_of R js)
  sum-of-good n js c = subst (λ (m : ℕ). Good m (sum_of R js)) c.1 (sum-good R.start 0 js L.start-good c.0)

  pub least : (n : ℕ) (js : List ℕ) → LegalCut R n js → R.lower (sum_of R js) (best (rule_of R) n) ≡ false
  least n js c =
      let d : Cut n js = (rising-of 0 js c.0, c.1) in
      L.neg-trans n _ _ _ (B.cost-good (rule_of R) Good laws n n) (B.cost-of-good (rule_of R) Good laws n js d) (sum-of-good n js c)
      (B.best-le (rule_of R) Good laws n js d)
      (walk-le-sum R.start R.start 0 js L.start-good L.start-good (B.irrefl (rule_of R) Good laws 0 R.start L.start-good) c.0)

  -- where some legal cutting comes to less than `top`, the best is there
  pub there : (n : ℕ) (js : List ℕ) → LegalCut R n js → R.lower (sum_of R js) R.top ≡ true → Present (rule_of R) (best (rule_of R) n)
  there n js c p = lower-of-le n _ _ _ (B.cost-good (rule_of R) Good laws n n) (sum-of-good n js c) (L.top-good n) (least n js c) p

  -- where legal runs never come to `top`, no legal cutting does
  pub below_top : ((c : C) (i j : ℕ) → i < j → R.legal i j ≡ true → Good i c → R.lower c R.top ≡ true → R.lower (R.ext c i j) R.top ≡ true)
      → (c : C) (i : ℕ) (js : List ℕ) → Good i c → R.lower c R.top ≡ true → LegalFrom R i js → R.lower (sum_from R c i js) R.top ≡ true
  below_top fin c i [] g p l = p
  below_top fin c i (j ∷ js) g p l = below_top fin (R.ext c i j) j js (L.ext-good c i j l.0 l.1 g) (fin c i j l.0 l.1 g p) l.2

  -- ---- (b) the cutting that is read back is legal, and comes to the best

  walk-strict : (c : C) (i : ℕ) (js : List ℕ) → Good i c → Rising i js → R.lower c R.top ≡ false → R.lower (walk (rule_of R) c i js) R.top ≡ false
  walk-strict c i [] g r h = h
  walk-strict c i (j ∷ js) g r h = walk-strict (step_of R c i j) j js (step-good c i j r.0 g) r.1 (step-strict c i j r.0 g h)

  walk-sum : (c : C) (i : ℕ) (js : List ℕ) → Good i c → Rising i js → Present (rule_of R) (walk (rule_of R) c i js)
      → LegalFrom R i js × (walk (rule_of R) c i js ≡ sum_from R c i js)
  walk-sum c i [] g r p = (tt, refl)
  walk-sum c i (j ∷ js) g r p = go (stepped R c i j) (walk-sum (step_of R c i j) j js (step-good c i j r.0 g) r.1 p)
    where
      end : C → C
      end x = walk (rule_of R) x j js

      none : step_of R c i j ≡ R.top → ⊥
      none e =
          not-both (R.lower (end (step_of R c i j)) R.top) p
          (walk-strict (step_of R c i j) j js (step-good c i j r.0 g) r.1 (rw e top-top))

      go : Stepped R c i j → LegalFrom R j js × (end (step_of R c i j) ≡ sum_from R (step_of R c i j) j js)
          → LegalFrom R i (j ∷ js) × (end (step_of R c i j) ≡ sum_from R c i (j ∷ js))
      go (on q t e) h = ((r.0, q, h.0), h.1 ∙ ap (λ (x : C). sum_from R x j js) e)
      go (barred q e) h = absurd (none e)
      go (over q t e) h = absurd (none e)

  pub attained : (n : ℕ) → Present (rule_of R) (best (rule_of R) n)
      → LegalCut R n (ends (rule_of R) n) × (sum_of R (ends (rule_of R) n) ≡ best (rule_of R) n)
  attained n p =
      let S = rule_of R in
      let c = B.ends-cut S Good laws n p in
      let e = B.ends-cost S Good laws n p in
      let w = walk-sum R.start 0 (ends S n) L.start-good c.0 (rw e p) in
      ((w.0, c.1), sym w.1 ∙ e)

  -- ---- (c) of the starts from which a legal run comes to no more than the best, the earliest is kept

  pub earliest : (n i : ℕ) → Present (rule_of R) (best (rule_of R) n) → i < n → R.legal i n ≡ true
      → R.lower (best (rule_of R) n) (R.ext (best (rule_of R) i) i n) ≡ false → pred (rule_of R) n ≤ i
  earliest n i p o l h = go (stepped R (best S i) i n)
    where
      S : Rule C
      S = rule_of R

      good : (j : ℕ) → Good j (best S j)
      good j = B.cost-good S Good laws j j

      go : Stepped R (best S i) i n → pred S n ≤ i
      go (on q t e) = B.pred-least S Good laws n i (rw e h)
      go (barred q e) = not-both (R.legal i n) l q
      go (over q t e) =
          not-both (R.lower (R.ext (best S i) i n) R.top)
          (lower-of-le n _ _ _ (L.ext-good (best S i) i n o l (good i)) (good n) (L.top-good n) h p) t
