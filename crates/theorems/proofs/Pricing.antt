-- What is promised of a cutting, for any way to price runs that is sound and complete. Assumes nothing.
use Prim.Native.Nat.{ℕ, ◌+◌, ◌≤◌}
use native.Mathlib.Omega.{arith}
use native.Mathlib.Nat.{le_refl, zero-add}
use mathlib.Core.Path.{◌≡◌, refl, sym, ap, subst, ◌∙◌}
use mathlib.Core.Bool.{true, false, false≢true}
use mathlib.Core.List.{List, [], ◌∷◌}
use Rattle.std.specs.Prelude.{Option, None, Some}
use lib.ListN.{length, take, length-map}
use lib.Seq.{take-length}
use Rattle.basics.proofs.TestLaws.{both, and-true}
use Rattle.basics.proofs.OptionLaws.{same, held}
use Rattle.definitions.specs.Sheet.{Sheet}
use Rattle.definitions.specs.Run.{Run, legal, run_cost}
use Rattle.definitions.specs.Clock.{Arc}
use Rattle.definitions.specs.Cutting.{joined, legal_cutting, cutting_cost, Best, cheapest}
use Rattle.definitions.specs.Drop.{all_held, call_at, calls_at, Held, drops}
use Rattle.definitions.specs.Promise.{HasCutting, Settles, stop, goes}
use Rattle.theorems.proofs.Dropping.{settles, settled}
use Rattle.theorems.proofs.Least.{Reach, start, Made, Arced, cost_in, worth, reach-runs, best_of}
use Rattle.theorems.proofs.Shortest.{Cuttable}

pub plus : {a b c d : ℕ} → a ≡ b → c ≡ d → a + c ≡ b + d
plus p q = omega arith

settles-same : (P Q : List ℕ → Type 0) (tour : List ℕ) → ((l : List ℕ) → P l → Q l) → ((l : List ℕ) → Q l → P l) → {h g : Held} → Settles P tour h g → Settles Q tour h g
settles-same P Q tour f b (stop a) = stop (λ i l. f _ (a i l))
settles-same P Q tour f b (goes k l x a r) = goes k l (λ q. x (b _ q)) (λ i c. f _ (a i c)) (settles-same P Q tour f b r)

-- ---- any way to price runs

-- an arc is a legal run at its cost, and where some place is legal there is an arc
pub record Pricing (s : Sheet) (price : List ℕ → Option Arc) : Type 0 where
  pub sound : (calls : List ℕ) (a : Arc) → price calls ≡ Some a
      → (legal s (record { calls = calls; place = a.place }) ≡ true) × (run_cost s (record { calls = calls; place = a.place }) ≡ a.cost)
  pub complete : (r : Run) → legal s r ≡ true → (a : Arc) × (price r.calls ≡ Some a)

module _ (s : Sheet) (price : List ℕ → Option Arc) (P : Pricing s price) where
  -- a cutting has no empty run
  pub no-empty : price [] ≡ None
  unfolding legal
  no-empty = go (price []) refl
    where
      go : (o : Option Arc) → price [] ≡ o → price [] ≡ None
      go None e = e
      go (Some a) e = absurd (false≢true (P.sound [] a e).0)

  pub made-legal : (rs : List Run) → Made price rs → (legal_cutting s rs ≡ true) × (cutting_cost s rs ≡ worth price rs)
  made-legal [] M = (refl, refl)
  made-legal (r ∷ rs) M =
      let a = M.0.0 in
      let x = P.sound r.calls a M.0.1 in
      let y = made-legal rs M.1 in (
        and-true _ _ (subst (λ (n : ℕ). legal s (record { calls = r.calls; place = n }) ≡ true) M.0.2 x.0) y.0,
        plus (subst (λ (n : ℕ). run_cost s (record { calls = r.calls; place = n }) ≡ a.cost) M.0.2 x.1 ∙ sym (ap cost_in M.0.1)) y.1,
      )

  pub legal-arced : (rs : List Run) → legal_cutting s rs ≡ true → Arced price rs
  legal-arced [] h = tt
  legal-arced (r ∷ rs) h = let b = both (legal s r) _ h in (P.complete r b.0, legal-arced rs b.1)

  pub runs-reach : (rs : List Run) → legal_cutting s rs ≡ true → Reach price (joined rs) (worth price rs)
  runs-reach rs h = subst (λ (n : ℕ). Reach price (joined rs) n) (zero-add (worth price rs)) (reach-runs price [] 0 (start refl refl) rs (legal-arced rs h))

  -- the two ways to say that calls have a legal cutting
  pub has-cuttable : (calls : List ℕ) → HasCutting s calls → Cuttable price calls
  has-cuttable calls c = (worth price c.0, subst (λ (l : List ℕ). Reach price l (worth price c.0)) c.1 (runs-reach c.0 c.2))

  pub cuttable-has : (calls : List ℕ) → Cuttable price calls → HasCutting s calls
  cuttable-has calls c =
      let B = best_of price no-empty calls in
      let m = B.below c.0 c.1 in
      let k = B.cuts m.0 m.1 in
      (m.0.runs, k.0, (made-legal m.0.runs k.1).0)

  module _ (tour : List ℕ) where
    abbrev pub final : Held
    final = drops price tour

    abbrev pub calls : List ℕ
    calls = calls_at tour final.held

    -- the served calls have a cutting
    pub cut : (m : Best) × (cheapest price calls ≡ Some m)
    cut =
        let c = settled (Cuttable price) tour (settles price tour no-empty) (length final.held) (le_refl (length final.held)) in
        let e : take (length final.held) calls ≡ calls = ap (λ (n : ℕ). take n calls) (sym (length-map final.held (call_at tour))) ∙ take-length calls in
        let m = (best_of price no-empty calls).below c.0 (subst (λ (l : List ℕ). Reach price l c.0) e c.1) in
        (m.0, m.1)

    -- it is legal, and its run costs add up to its cost
    pub cut-legal : (joined cut.0.runs ≡ calls) × Made price cut.0.runs × (legal_cutting s cut.0.runs ≡ true) × (cutting_cost s cut.0.runs ≡ cut.0.cost)
    cut-legal =
        let k = (best_of price no-empty calls).cuts cut.0 cut.1 in
        let L = made-legal cut.0.runs k.1 in
        (k.0, k.1, L.0, L.1 ∙ k.2)

    -- and a legal cutting whose runs cost no less than their arcs costs no less
    pub cut-least : (rs : List Run) → joined rs ≡ calls → legal_cutting s rs ≡ true → worth price rs ≤ cutting_cost s rs → cut.0.cost ≤ cutting_cost s rs
    cut-least rs j l w =
        let m = (best_of price no-empty calls).below (worth price rs) (subst (λ (c : List ℕ). Reach price c (worth price rs)) j (runs-reach rs l)) in
        under m.0.cost (worth price rs) cut.0.cost (cutting_cost s rs) m.2 (ap (λ (x : Best). x.cost) (same (sym cut.1 ∙ m.1))) w
      where
        under : (a b c d : ℕ) → a ≤ b → c ≡ a → b ≤ d → c ≤ d
        under a b c d h p q = omega arith

    pub drop-rule : Settles (HasCutting s) tour (all_held tour) final
    drop-rule = settles-same (Cuttable price) (HasCutting s) tour cuttable-has has-cuttable (settles price tour no-empty)
