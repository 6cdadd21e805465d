-- The runs of the planner's result, as its calls, run ends and break places give them. Assumes nothing.
use Prim.Native.Nat.{ℕ, ◌≤◌}
use native.Mathlib.Omega.{arith}
use mathlib.Core.Path.{◌≡◌, refl, sym, ap, subst, ◌∙◌}
use mathlib.Core.List.{List, [], ◌∷◌, ◌++◌, map}
use lib.ListN.{length, length-map}
use Rattle.basics.specs.Lists.{All}
use Rattle.definitions.specs.Domain.{most_calls}
use Rattle.definitions.specs.Sheet.{Sheet}
use Rattle.definitions.specs.Run.{Run}
use Rattle.definitions.specs.RunList.{runs_of}
use Rattle.definitions.specs.Placement.{Placement}
use Rattle.definitions.specs.Cutting.{calls_in, joined}
use Rattle.definitions.specs.Drop.{Result, split_by}
use Rattle.definitions.specs.Marker.{with_places}
use Rattle.theorems.proofs.RunListLaws.{runs-back, ends-many}
use Rattle.theorems.proofs.Promised.{PromiseBy, promised-by}
use Rattle.bounds.specs.Sized.{Sized, Place}
use Rattle.bounds.proofs.Inside.{held-inside}
use Rattle.bounds.proofs.InBytes.{split-by-few}

pub all_both : {A : Type 0} (P : A → Type 0) (l m : List A) → All P (l ++ m) → All P l × All P m
all_both P [] m a = (tt, a)
all_both P (x ∷ l) m a = let b = all_both P l m a.1 in ((a.0, b.0), b.1)

-- runs to calls and places, and back
places-back : (runs : List Run) → with_places (calls_in runs) (map (λ r. r.place) runs) ≡ runs
places-back [] = refl
places-back (r ∷ rs) = ap (λ (l : List Run). r ∷ l) (places-back rs)

module _ (p : Placement) (s : Sheet) (tour : List ℕ) where
  abbrev x : Result
  x = split_by p s tour

  abbrev P : PromiseBy p s tour x
  P = promised-by s tour p

  -- the runs of the planner's calls and ends, and with its places
  pub runs-are : runs_of x.served x.ends ≡ calls_in P.runs
  runs-are = rw (← P.cuts, ← P.ends-are) (runs-back 0 (calls_in P.runs))

  pub placed-are : with_places (runs_of x.served x.ends) x.places ≡ P.runs
  placed-are = rw (runs-are, ← P.places-are) (places-back P.runs)

  -- each run has a place
  pub places-many : length x.ends ≡ length x.places
  places-many =
      ap length (sym P.ends-are) ∙ ends-many 0 (calls_in P.runs) ∙ length-map P.runs (λ r. r.calls)
      ∙ sym (length-map P.runs (λ r. r.place)) ∙ ap length P.places-are

  pub served-few : length tour ≤ most_calls → length (joined P.runs) ≤ most_calls
  served-few few = omega (arith, few, ap length P.cuts, (split-by-few tour p s).served)

  pub served-inside : Sized s → All (Place s) tour → All (Place s) (joined P.runs)
  served-inside S i = subst (All (Place s)) (P.served-are ∙ sym P.cuts) (held-inside s S tour P.held i)
