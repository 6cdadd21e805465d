-- The shortest beginning without a legal cutting is found. Assumes nothing.
use Prim.Native.Nat.{ℕ, zero, suc, ◌+◌, ◌-◌, ◌≤◌, ◌<◌}
use native.Mathlib.Omega.{arith}
use native.Mathlib.Nat.{not-suc-le-zero, add-zero}
use mathlib.Core.Path.{◌≡◌, refl, sym, ap, subst, ◌∙◌}
use mathlib.Core.Bool.{true, false}
use mathlib.Core.List.{List, [], ◌∷◌, ◌++◌, append-nil, append_assoc, tail}
use Rattle.std.specs.Prelude.{Option, None, Some}
use lib.ListN.{length, take}
use Rattle.basics.proofs.TestLaws.{by-test}
use Rattle.basics.proofs.OptionLaws.{there, absent, clash}
use Rattle.basics.specs.Options.{present}
use Rattle.definitions.specs.Clock.{Arc}
use Rattle.definitions.specs.Cutting.{Best, Point, points, shortest, stuck}
use Rattle.theorems.proofs.Least.{Reach, BestOf, best-reach, Table, table}

module _ (arc : List ℕ → Option Arc) where
  -- the calls have a legal cutting
  abbrev pub Cuttable : List ℕ → Type 0
  Cuttable calls = (n : ℕ) × Reach arc calls n

  can : (calls : List ℕ) (b : Option Best) → BestOf arc calls b → present b ≡ true → Cuttable calls
  can calls b B h = let m = there b h in (m.0.cost, best-reach arc calls b B m.0 m.1)

  cannot : (calls : List ℕ) (b : Option Best) → BestOf arc calls b → present b ≡ false → Cuttable calls → ⊥
  cannot calls b B h c = let m = B.below c.0 c.1 in clash (sym (absent h) ∙ m.1)

  -- every beginning has one
  abbrev pub AllCut : List ℕ → List ℕ → ℕ → Type 0
  AllCut pre rest n = (i : ℕ) → i < n → Cuttable (pre ++ take i rest)

  pub data Short (pre rest : List ℕ) (j : ℕ) (o : Option ℕ) : Type 0 where
    no_short : o ≡ None → AllCut pre rest (suc (length rest)) → Short pre rest j o
    short : (i : ℕ) → o ≡ Some (j + i) → i ≤ length rest → (Cuttable (pre ++ take i rest) → ⊥) → AllCut pre rest i → Short pre rest j o

  none_below : (pre rest : List ℕ) → AllCut pre rest 0
  none_below pre rest i h = absurd (not-suc-le-zero h)

  one_more : (pre : List ℕ) (c : ℕ) (rest : List ℕ) (n : ℕ) → Cuttable pre → AllCut (pre ++ (c ∷ [])) rest n → AllCut pre (c ∷ rest) (suc n)
  one_more pre c rest n h a zero i = subst Cuttable (sym (append-nil pre)) h
  one_more pre c rest n h a (suc k) i = subst Cuttable (append_assoc pre (c ∷ []) (take k rest)) (a k (omega arith))

  shortest-is : (pre rest : List ℕ) (ps : List Point) (j : ℕ) → Table arc pre rest ps → Short pre rest j (shortest j ps)
  shortest-is pre rest [] j T = absurd T
  shortest-is pre [] (p ∷ ps) j T =
      by-test (present p.best)
      (λ t. no_short (rw (t, T.2) refl) (λ i h. subst Cuttable (sym (ap (λ (l : List ℕ). pre ++ l) (nil i) ∙ append-nil pre)) (can pre p.best T.0 t)))
      (λ f. short 0 (rw f (ap Some (sym (add-zero j)))) (low 0) (λ c. cannot pre p.best T.0 f (subst Cuttable (append-nil pre) c)) (none_below pre []))
    where
      nil : (i : ℕ) → ◌≡◌ {A = List ℕ} (take i []) []
      nil zero = refl
      nil (suc i) = refl

      low : (n : ℕ) → 0 ≤ n
      low n = omega arith
  shortest-is pre (c ∷ rest) (p ∷ ps) j T = go (shortest-is (pre ++ (c ∷ [])) rest ps (suc j) T.2)
    where
      low : (n : ℕ) → 0 ≤ n
      low n = omega arith

      here : present p.best ≡ false → Short pre (c ∷ rest) j (shortest j (p ∷ ps))
      here f = short 0 (rw f (ap Some (sym (add-zero j)))) (low (length (c ∷ rest))) (λ x. cannot pre p.best T.0 f (subst Cuttable (append-nil pre) x)) (none_below pre (c ∷ rest))

      shift : (j i : ℕ) → suc j + i ≡ j + suc i
      shift j i = omega arith

      up : (i n : ℕ) → i ≤ n → suc i ≤ suc n
      up i n h = omega arith

      go : Short (pre ++ (c ∷ [])) rest (suc j) (shortest (suc j) ps) → Short pre (c ∷ rest) j (shortest j (p ∷ ps))
      go (no_short e a) =
          by-test (present p.best) (λ t. no_short (rw t e) (one_more pre c rest (suc (length rest)) (can pre p.best T.0 t) a)) here
      go (short i e l x a) =
          by-test (present p.best)
          (λ t. short (suc i) (rw t (e ∙ ap Some (shift j i))) (up i (length rest) l) (λ y. x (subst Cuttable (sym (append_assoc pre (c ∷ []) (take i rest))) y))
          (one_more pre c rest i (can pre p.best T.0 t) a))
          here

  -- of calls: none where every beginning has a legal cutting; or the last call of the shortest that has none
  pub data Stuck (calls : List ℕ) (o : Option ℕ) : Type 0 where
    never : o ≡ None → ((i : ℕ) → i ≤ length calls → Cuttable (take i calls)) → Stuck calls o
    at_call : (k : ℕ) → o ≡ Some k → k < length calls → (Cuttable (take (suc k) calls) → ⊥) → ((i : ℕ) → i ≤ k → Cuttable (take i calls)) → Stuck calls o

  no-calls : Cuttable []
  no-calls = (0, Reach.start refl refl)

  le-lt : (i n : ℕ) → i ≤ n → i < suc n
  le-lt i n h = omega arith

  pub stuck-is : arc [] ≡ None → (calls : List ℕ) → Stuck calls (stuck arc calls)
  unfolding stuck
  stuck-is empty calls = go calls (points arc calls) (table arc empty calls)
    where
      nil : (i : ℕ) → Cuttable (take i [])
      nil zero = no-calls
      nil (suc i) = no-calls

      at : (c : ℕ) (rest : List ℕ) (o : Option ℕ) → Short (c ∷ []) rest 0 o → Stuck (c ∷ rest) o
      at c rest o (no_short e a) = never e (λ i h. one_more [] c rest (suc (length rest)) no-calls a i (le-lt i (length (c ∷ rest)) h))
      at c rest o (short i e l x a) = at_call i (e ∙ ap Some (native.Mathlib.Nat.zero-add i)) (le-lt i (length rest) l) x (λ k h. one_more [] c rest i no-calls a k (le-lt k i h))

      go : (calls : List ℕ) (ps : List Point) → Table arc [] calls ps → Stuck calls (shortest 0 (tail ps))
      go calls [] T = absurd T
      go [] (p ∷ ps) T = never (ap (shortest 0) T.2) (λ i h. nil i)
      go (c ∷ rest) (p ∷ ps) T = at c rest (shortest 0 ps) (shortest-is (c ∷ []) rest ps 0 T.2)
