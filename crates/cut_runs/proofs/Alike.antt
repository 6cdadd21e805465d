-- Stretches that begin alike: place, load, time, clock and labels of their first calls are the same. Assumes nothing.
use Prim.Native.Nat.{ℕ, zero, suc, ◌<◌, ◌≤◌}
use native.Mathlib.Omega.{arith}
use mathlib.Core.Path.{◌≡◌, refl, sym, ap, ◌∙◌}
use mathlib.Core.List.{List}
use lib.ListN.{get_or, take}
use lib.Seq.{get_or-take}
use lib.Ieee.{Float}
use Rattle.definitions.specs.Load.{Load}
use Rattle.definitions.specs.Sheet.{BreakOf}
use Rattle.evaluation.specs.Records.{Tables}
use Rattle.evaluation.specs.Tables.{place_before}
use Rattle.cut_runs.specs.Stretch.{load_to}
use Rattle.cut_runs.specs.Places.{label_of}
use Rattle.cut_runs.specs.Runs.{timed_of, clock_of}

module _ (m : ℕ) (st st' : List ℕ) (e : take m st ≡ take m st') where
  pub call-alike : (k : ℕ) → k < m → get_or st k 0 ≡ get_or st' k 0
  call-alike k h = sym (get_or-take m st k 0 h) ∙ ap (λ (l : List ℕ). get_or l k 0) e ∙ get_or-take m st' k 0 h

  pub place-alike : (k : ℕ) → k ≤ m → place_before st k ≡ place_before st' k
  unfolding place_before
  place-alike zero h = refl
  place-alike (suc k) h = call-alike k h

  pub load-alike : (demand : ℕ → Load) (k : ℕ) → k ≤ m → load_to demand st k ≡ load_to demand st' k
  unfolding load_to
  load-alike demand zero h = refl
  load-alike demand (suc k) h = rw (load-alike demand k (omega arith), call-alike k h) refl

  pub timed-alike : (t : Tables) (k : ℕ) → k ≤ m → timed_of t st k ≡ timed_of t st' k
  unfolding timed_of
  timed-alike t zero h = refl
  timed-alike t (suc k) h = rw (timed-alike t k (omega arith), place-alike k (omega arith), call-alike k h) refl

  pub clock-alike : (t : Tables) (b : BreakOf Float) (k : ℕ) → k ≤ m → clock_of t st b k ≡ clock_of t st' b k
  unfolding clock_of
  clock-alike t b zero h = refl
  clock-alike t b (suc k) h = rw (clock-alike t b k (omega arith), place-alike k (omega arith), call-alike k h) refl

  pub label-alike : (t : Tables) (b : BreakOf Float) (p k : ℕ) → k ≤ m → label_of t st b p k ≡ label_of t st' b p k
  unfolding label_of
  label-alike t b p zero h = refl
  label-alike t b p (suc k) h = rw (label-alike t b p k (omega arith), place-alike k (omega arith), call-alike k h) refl
