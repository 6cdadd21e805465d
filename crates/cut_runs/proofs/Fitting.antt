-- Which beginnings of a stretch fit: those up to the first load that is too much, or up to its end. Assumes nothing.
use Prim.Native.Nat.{ℕ, suc, ◌<◌, ◌≤◌}
use native.Mathlib.Decide.{le_ind}
use native.Mathlib.Omega.{arith}
use mathlib.Core.Path.{◌≡◌}
use mathlib.Core.Bool.{true, false, and-false}
use mathlib.Core.List.{List}
use lib.ListN.{length, get_or}
use lib.Dec.{leb}
use borrow.Author.Tests.{le-leb, lt-leb}
use Rattle.basics.proofs.TestLaws.{and-true}
use Rattle.definitions.specs.Load.{Load, carried}
use Rattle.definitions.proofs.LoadLaws.{over_first}
use Rattle.cut_runs.specs.Stretch.{load_to, fits_of}

module _ (demand : ℕ → Load) (capacity : Load) (st : List ℕ) where
  still-over : (a b : ℕ) → a ≤ b → carried (load_to demand st a) capacity ≡ false → carried (load_to demand st b) capacity ≡ false
  unfolding load_to
  still-over a b h o =
      le_ind (λ (m : ℕ). carried (load_to demand st m) capacity ≡ false) o (λ m _ r. over_first (load_to demand st m) (demand (get_or st m 0)) capacity r) b h

  -- each beginning whose load fits
  pub fits-here : (m : ℕ) → m ≤ length st → carried (load_to demand st m) capacity ≡ true → fits_of demand capacity st m ≡ true
  unfolding fits_of
  fits-here m b f = and-true _ _ (le-leb m (length st) b) f

  -- none past the first load that is too much
  pub none_over : (m : ℕ) → carried (load_to demand st (suc m)) capacity ≡ false → (k : ℕ) → m < k → fits_of demand capacity st k ≡ false
  unfolding fits_of
  none_over m o k h = rw (still-over (suc m) k h o) (and-false (leb k (length st)))

  -- none past the stretch's end
  pub none-past : (m : ℕ) → length st ≤ m → (k : ℕ) → m < k → fits_of demand capacity st k ≡ false
  unfolding fits_of
  none-past m o k h = rw (lt-leb k (length st) (omega arith))
