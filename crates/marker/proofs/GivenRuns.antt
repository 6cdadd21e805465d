-- The runs of a run list: what the test of calls leaves of each. Assumes nothing.
use Prim.Native.Nat.{ℕ, ◌-◌, ◌≤◌}
use native.Mathlib.Omega.{arith}
use mathlib.Core.List.{List, [], ◌∷◌}
use lib.ListN.{length, take, drop, length-take, length-drop}
use Rattle.basics.specs.Lists.{All}
use Rattle.definitions.specs.Domain.{most_calls}
use Rattle.definitions.specs.Sheet.{Sheet}
use Rattle.definitions.specs.RunList.{runs_from}
use Rattle.bounds.specs.Sized.{Place}
use Rattle.basics.proofs.ListLaws.{all_take, all_drop}

-- the calls are few, and each is a place of the sheet
abbrev pub Inside : Sheet → List ℕ → Type 0
Inside s calls = (length calls ≤ most_calls) × All (Place s) calls

pub runs-inside : (s : Sheet) (p : ℕ) (calls ends : List ℕ) → Inside s calls → All (Inside s) (runs_from p calls ends)
unfolding runs_from
runs-inside s p calls [] i = tt
runs-inside s p calls (e ∷ ends) i =
    let less : length (take (e - p) calls) ≤ most_calls = simp length-take (omega arith) in
    let rest : length (drop (e - p) calls) ≤ most_calls = simp length-drop (omega arith) in
    ((less, all_take (Place s) (e - p) calls i.1), runs-inside s e (drop (e - p) calls) ends (rest, all_drop (Place s) (e - p) calls i.1))
