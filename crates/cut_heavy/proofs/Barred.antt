-- A call too heavy alone never stays: no run with it fits, so no beginning that ends with it has a cutting. The test is on loads, whatever the costs are. Assumes nothing.
use Prim.Native.Nat.{ℕ, zero, suc, ◌+◌, ◌-◌, ◌≤◌}
use native.Mathlib.Nat.{le_refl}
use native.Mathlib.Omega.{arith}
use mathlib.Core.Path.{◌≡◌, refl, sym, ap, ◌∙◌}
use mathlib.Core.Bool.{false, and-false, false≢true}
use mathlib.Core.List.{List, [], ◌∷◌, ◌++◌}
use lib.ListN.{length, get_or, drop}
use lib.Seq.{get_or-drop, get_or-append_seam}
use lib.Dec.{leb, ltb}
use lib.Ieee.{Float, inf, lt}
use Rattle.basics.proofs.TestLaws.{by-test}
use Rattle.cut_theory.specs.Cut as Cut
use Rattle.cut_theory.specs.Cut.{first}
use Rattle.cut_theory.specs.Rows.{Legs, rule64}
use Rattle.definitions.specs.Load.{Load, plus, carried}
use Rattle.definitions.proofs.LoadLaws.{carried-second}
use Rattle.cut_runs.specs.Stretch.{load_to, fits_of}
use Rattle.cut_runs.specs.Tariff.{Tariff, stretches, legal_of, runs_of}
use Rattle.cut_runs.specs.Runs.{Instance, tariff}
use Rattle.cut_heavy.proofs.Onward.{joins}

over-second : (a b k : Load) → carried b k ≡ false → carried (plus a b) k ≡ false
over-second a b k h = by-test (carried (plus a b) k) (λ t. absurd (false≢true (sym h ∙ carried-second a b k t))) (λ f. f)

-- a cell that no legal run ends at stays empty
no_run : (E : Legs) (j : ℕ) → ((i : ℕ) → i ≤ j → E.legal i (suc j) ≡ false) → (i : ℕ) → i ≤ suc j → Cut.cost (rule64 E) i (suc j) ≡ inf false
unfolding Cut.cost first lt
no_run E j z zero h = refl
no_run E j z (suc i) h = rw (no_run E j z i (omega arith), z i (omega arith), and-false (ltb i (suc j))) refl

module _ (T : Tariff) (kept : List ℕ) (c : ℕ) (heavy : carried (T.demand c) T.capacity ≡ false) where
  abbrev calls : List ℕ
  calls = kept ++ (c ∷ [])

  -- the last call of a run that ends there
  last-is : (i : ℕ) → i ≤ length kept → get_or (drop i calls) (length kept - i) 0 ≡ c
  last-is i h =
      let e : i + (length kept - i) ≡ length kept = omega arith in
      get_or-drop i calls (length kept - i) 0 ∙ ap (λ (k : ℕ). get_or calls k 0) e ∙ get_or-append_seam kept c [] 0

  not-legal : (i : ℕ) → i ≤ length kept → legal_of T (drop i calls) (suc (length kept) - i) ≡ false
  unfolding legal_of fits_of load_to
  not-legal i h =
      let m : suc (length kept) - i ≡ suc (length kept - i) = omega arith in
      let over = over-second (load_to T.demand (drop i calls) (length kept - i)) (T.demand c) T.capacity heavy in
      rw (m, last-is i h, over, and-false (leb (suc (length kept - i)) (length (drop i calls)))) (and-false (T.allowed (drop i calls) (suc (length kept - i))))

pub heavy-goes : (I : Instance) (kept : List ℕ) (c : ℕ) → carried ((tariff I).demand c) I.capacity ≡ false → joins I kept c ≡ false
unfolding lt
heavy-goes I kept c heavy =
    ap (λ (x : Float). lt x (inf false))
    (no_run (runs_of (tariff I) (stretches (kept ++ (c ∷ [])))) (length kept) (λ i h. not-legal (tariff I) kept c heavy i h) (suc (length kept)) (le_refl _))
