-- Where no term of a legal run is a NaN or has a minus, no legal cutting costs less than the table's best (`least`, `there`), the cutting that is read back is legal and costs just that (`attained`),
-- of the starts of its last run that cost no more the earliest is kept (`earliest`), and every beginning of what the drop rule keeps has a legal cutting (`kept-cuttable`). Assumes nothing.
use Prim.Native.Nat.{ℕ, ◌<◌, ◌≤◌}
use mathlib.Core.Path.{◌≡◌, refl}
use mathlib.Core.Bool.{true, false}
use mathlib.Core.List.{List, [], ◌∷◌}
use lib.ListN.{length}
use lib.Ieee.{Float, inf, binary64, add, lt}
use Rattle.basics.specs.Lists.{All}
use Rattle.cut_theory.specs.Cut.{best, pred, ends}
use Rattle.cut_theory.specs.Runs.{RunLaws, LegalCut}
use Rattle.cut_theory.proofs.RunsBest as Runs
use Rattle.cut_theory.specs.Held.{Cuttable, kept}
use Rattle.cut_theory.proofs.HeldLaws as Held
use Rattle.cut_theory.specs.Floats.{Nonneg}
use Rattle.cut_theory.proofs.FloatLaws.{lt-inf, lt-asym, lt-neg-trans, add-stuck, add-nonneg, add-keeps}
use Rattle.cut_theory.specs.Rows.{Strict, runs64, rule64}
use Rattle.cut_theory.specs.Priced.{added, Price, legs, price_of, Sound, Parts, with_pay, without_pay}

-- ---- the sums are those of `split_tw` and of `split`

pub with-pay : (Q : Parts) (c : Float) (i j : ℕ) → (legs (with_pay Q)).ext c i j ≡ add binary64 (add binary64 (add binary64 c Q.fixed) (Q.dist i j)) (Q.pay i j)
with-pay Q c i j = refl

pub without-pay : (Q : Parts) (c : Float) (i j : ℕ) → (legs (without_pay Q)).ext c i j ≡ add binary64 (add binary64 c Q.fixed) (Q.dist i j)
without-pay Q c i j = refl

module _ (Q : Parts) (fixed : Nonneg Q.fixed) (dist : (i j : ℕ) → i < j → Q.legal i j ≡ true → Nonneg (Q.dist i j)) where
  pub sound-with : ((i j : ℕ) → i < j → Q.legal i j ≡ true → Nonneg (Q.pay i j)) → Sound (with_pay Q)
  sound-with pay i j o l = (fixed, (dist i j o l, (pay i j o l, tt)))

  pub sound-without : Sound (without_pay Q)
  sound-without i j o l = (fixed, (dist i j o l, tt))

-- ---- sums

pub added-stuck : (c : Float) (ts : List Float) → lt c (inf false) ≡ false → lt (added c ts) (inf false) ≡ false
added-stuck c [] h = h
added-stuck c (t ∷ ts) h = added-stuck (add binary64 c t) ts (add-stuck c t h)

added-nonneg : (c : Float) (ts : List Float) → Nonneg c → All Nonneg ts → Nonneg (added c ts)
added-nonneg c [] g a = g
added-nonneg c (t ∷ ts) g a = added-nonneg (add binary64 c t) ts (add-nonneg c t g a.0) a.1

added-keeps : (a b : Float) (ts : List Float) → Nonneg a → Nonneg b → All Nonneg ts → lt b a ≡ false → lt (added b ts) (added a ts) ≡ false
added-keeps a b [] ga gb g h = h
added-keeps a b (t ∷ ts) ga gb g h =
    added-keeps (add binary64 a t) (add binary64 b t) ts (add-nonneg a t ga g.0) (add-nonneg b t gb g.0) g.1 (add-keeps a b t ga gb g.0 h)

-- what cannot be done has no cost after it, whatever the terms
pub strict : (P : Price) → Strict (legs P)
strict P c i j h = added-stuck c (P.terms i j) h

-- ---- the table's best

module _ (P : Price) (G : Sound P) where
  pub laws : RunLaws (runs64 (legs P)) (λ _ x. Nonneg x)
  laws =
      record {
        asym = λ _. lt-asym;
        neg-trans = λ _. lt-neg-trans;
        start-good = tt;
        top-good = λ _. tt;
        ext-good = λ a i j o l g. added-nonneg a (P.terms i j) g (G i j o l);
        at-most-top = λ _ a _. lt-inf a;
        mono = λ a b i j o l ga gb h. added-keeps a b (P.terms i j) ga gb (G i j o l) h;
        strict = λ a i j _ _ _ h. strict P a i j h;
      }

  -- no legal cutting of the first n calls costs less than the best
  pub least : (n : ℕ) (js : List ℕ) → LegalCut (runs64 (legs P)) n js → lt (price_of P js) (best (rule64 (legs P)) n) ≡ false
  least = Runs.least (runs64 (legs P)) (λ _ x. Nonneg x) laws

  -- where some legal cutting does not overflow, the best is finite
  pub there : (n : ℕ) (js : List ℕ) → LegalCut (runs64 (legs P)) n js → lt (price_of P js) (inf false) ≡ true → lt (best (rule64 (legs P)) n) (inf false) ≡ true
  there = Runs.there (runs64 (legs P)) (λ _ x. Nonneg x) laws

  -- and then the cutting that is read back is legal, and costs just the best
  pub attained : (n : ℕ) → lt (best (rule64 (legs P)) n) (inf false) ≡ true
      → LegalCut (runs64 (legs P)) n (ends (rule64 (legs P)) n) × (price_of P (ends (rule64 (legs P)) n) ≡ best (rule64 (legs P)) n)
  attained = Runs.attained (runs64 (legs P)) (λ _ x. Nonneg x) laws

  -- and of the starts from which a legal run costs no more than the best, the earliest is kept
  pub earliest : (n i : ℕ) → lt (best (rule64 (legs P)) n) (inf false) ≡ true → i < n → P.legal i n ≡ true
      → lt (best (rule64 (legs P)) n) (added (best (rule64 (legs P)) i) (P.terms i n)) ≡ false → pred (rule64 (legs P)) n ≤ i
  earliest = Runs.earliest (runs64 (legs P)) (λ _ x. Nonneg x) laws

-- ---- the drop rule: the price may turn on the held list

module _ {A : Type 0} (P : List A → Price) (G : (l : List A) → Sound (P l)) where
  -- every beginning of what is kept has a legal cutting of a finite cost
  pub kept-cuttable : (l : List A) (n : ℕ) → n ≤ length (kept (λ t. runs64 (legs (P t))) l)
      → Cuttable (λ t. runs64 (legs (P t))) (kept (λ t. runs64 (legs (P t))) l) n
  unfolding lt
  kept-cuttable = Held.kept-cuttable (λ t. runs64 (legs (P t))) (λ _ x. Nonneg x) (λ t. laws (P t) (G t)) (λ t. refl)
