-- The runs that are left, written at the front of the lent lists. Assumes nothing.
use Prim.Native.Nat.{ℕ, suc, ◌+◌, ◌-◌, ◌≤◌}
use native.Mathlib.Omega.{arith}
use native.Mathlib.Nat.{zero-add}
use mathlib.Core.Path.{◌≡◌, refl, sym, ap, subst, ◌∙◌}
use mathlib.Core.Bool.{false}
use mathlib.Core.List.{List, [], ◌∷◌}
use lib.ListN.{length, take, drop}
use Rattle.definitions.specs.Refusals.{ends_fall}
use Rattle.definitions.specs.RunList.{runs_from, runs_of, calls_of, ends_of}
use Rattle.theorems.proofs.RunListLaws.{RiseTo, calls_back, ends-many}
use Rattle.improve_runs.specs.RunLists.{Runs, runs_in, Sound}
use Rattle.improve_runs.proofs.Holding.{rises-to, held, calls_are, ends-are}
use Rattle.place_choice.specs.Insertion.{GivenF}
use Rattle.route_elimination.specs.Elimination.{eliminated_f, Counts}
use Rattle.route_elimination.proofs.Fewer.{eliminated-fewer}

runs-many : (p : ℕ) (calls ends : List ℕ) → length (runs_from p calls ends) ≡ length ends
unfolding runs_from
runs-many p calls [] = refl
runs-many p calls (e ∷ ends) = ap suc (runs-many e (drop (e - p) calls) ends)

-- the runs that are left, counted and as lists
pub record Answered (answer : List (List ℕ)) (calls ends : List ℕ) (left : Runs) : Type 0 where
  pub counts : Counts answer left.many left.count
  pub calls-out : take left.many left.calls ≡ calls_of answer
  pub ends-out : take left.count left.ends ≡ ends_of answer
  pub few-calls : length (calls_of answer) ≤ length calls
  pub few-runs : length (ends_of answer) ≤ length ends

module _ (T : GivenF) (calls ends : List ℕ) (rises : ends_fall 0 ends (length calls) ≡ false) (left : Runs) (S : Sound left) where
  abbrev answer : List (List ℕ)
  answer = eliminated_f T (runs_of calls ends)

  pub answered : (given : List (List ℕ)) → given ≡ runs_of calls ends → runs_in left ≡ eliminated_f T given → Answered answer calls ends left
  answered given eg e =
      let is : runs_in left ≡ answer = e ∙ ap (eliminated_f T) eg in
      let H = held left S in
      let most = eliminated-fewer T (runs_of calls ends) in
      let r : RiseTo 0 ends (0 + length calls) = subst (RiseTo 0 ends) (sym (zero-add (length calls))) (rises-to 0 ends (length calls) rises) in
      record {
        counts = record { calls_count = H.many_is ∙ ap (λ (rs : List (List ℕ)). length (calls_of rs)) is; runs-count = H.count-is ∙ ap length is };
        calls-out = calls_are (runs_in left) left H ∙ ap calls_of is;
        ends-out = ends-are (runs_in left) left H ∙ ap ends_of is;
        few-calls = omega (arith, most.calls-most, ap length (calls_back 0 calls ends r));
        few-runs = omega (arith, ends-many 0 answer, most.runs-most, runs-many 0 calls ends);
      }
