-- From the calls held and their cut to the answer. Assumes nothing.
use Prim.Native.Nat.{ℕ, ◌+◌, ◌-◌, ◌≤◌}
use native.Mathlib.Omega.{arith}
use mathlib.Core.Path.{◌≡◌, sym, ap, subst, ◌∙◌}
use mathlib.Core.List.{List}
use lib.ListN.{length, take, drop, length-map}
use lib.Ieee.{Float}
use Rattle.cut_theory.specs.Tab.{cells}
use Rattle.definitions.specs.Drop.{call_at, calls_at, Held}
use Rattle.definitions.specs.Room.{written}
use Rattle.cut_table.proofs.Writing.{front-written}
use Rattle.cut_runs.specs.Tariff.{Tariff, CutDone}
use Rattle.split_tw.specs.Answer.{plan_f, Counted}
use Rattle.split_tw.proofs.Cutting.{part-is, few-runs, runs-are}

-- each call of the tour is held or dropped, and n are held
module _ (tour : List ℕ) (h : Held) (each : length h.held + length h.dropped ≡ length tour) (n : ℕ) (count : n ≡ length h.held) where
  held-long : length (calls_at tour h.held) ≡ n
  held-long = length-map h.held (call_at tour) ∙ sym count

  pub few-served : n ≤ length tour
  few-served = omega arith

  -- what is lent to the cut is the calls held
  pub cut-lent : (served₀ served : List ℕ) → served ≡ written (calls_at tour h.held) served₀ → take n served ≡ calls_at tour h.held
  cut-lent served₀ served e =
      ap (λ (l : List ℕ). take n l) e
      ∙ ap (λ (k : ℕ). take k (written (calls_at tour h.held) served₀)) (sym held-long)
      ∙ front-written (calls_at tour h.held) served₀

  pub lent-few : (l : List ℕ) → l ≡ calls_at tour h.held → length l ≤ length tour
  lent-few l e = omega (arith, ap length e, held-long, few-served)

  module _ (T : Tariff) (l : List ℕ) (Lent-is : l ≡ calls_at tour h.held) (cost distance : Float) (at : ℕ) (es : List ℕ) (D : CutDone T l cost distance at es) where
    cut-done : CutDone T (calls_at tour h.held) cost distance at es
    cut-done = subst (λ (k : List ℕ). CutDone T k cost distance at es) Lent-is D

    pub few-ends : length (take (cells - at) (drop at es)) ≤ length tour
    few-ends = omega (arith, few-runs T l cost distance at es D, lent-few l Lent-is)

    pub ends-written : (old : List ℕ) → written (take (cells - at) (drop at es)) old ≡ written (plan_f T tour h).ends old
    ends-written old = ap (λ (k : List ℕ). written k old) (part-is T (calls_at tour h.held) cost distance at es cut-done)

    pub answered : Counted (plan_f T tour h) n (cells - at) (length tour - n) cost distance
    answered =
        record {
          served-count = sym held-long;
          runs-count = runs-are T (calls_at tour h.held) cost distance at es cut-done;
          dropped-count = omega arith;
          cost-is = cut-done.cost-is;
          distance_is = cut-done.distance_is;
        }
