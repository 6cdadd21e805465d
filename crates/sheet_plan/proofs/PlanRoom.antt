-- How long the lists of the planner's result are: its run ends rise to the number of served calls, and each call is served or dropped. Assumes nothing.
use Prim.Native.Nat.{ℕ, ◌+◌, ◌≤◌}
use native.Mathlib.Omega.{arith}
use mathlib.Core.Path.{◌≡◌, ap, subst}
use mathlib.Core.List.{List, [], ◌∷◌, ◌++◌}
use lib.ListN.{length, length-append, length-map}
use Rattle.basics.proofs.ListLaws.{length-count}
use Rattle.definitions.specs.Sheet.{Sheet}
use Rattle.definitions.specs.RunList.{calls_of, ends_from}
use Rattle.definitions.specs.Placement.{Placement}
use Rattle.definitions.specs.Cutting.{calls_in, run_ends}
use Rattle.definitions.specs.Drop.{call_at, Result, split_by}
use Rattle.definitions.specs.Promise.{Parts, ended, kept, gone}
use Rattle.theorems.proofs.RunListLaws.{RiseTo, ends-many}
use Rattle.theorems.proofs.OwnMark.{few-runs}
use Rattle.theorems.proofs.Promised.{PromiseBy, promised-by}

-- the ends of runs rise to the number of their calls
ends-rise : (p : ℕ) (rs : List (List ℕ)) → RiseTo p (ends_from p rs) (p + length (calls_of rs))
ends-rise p [] = omega arith
ends-rise p (r ∷ rs) =
    (omega arith, subst (λ (n : ℕ). RiseTo (p + length r) (ends_from (p + length r) rs) n) on (ends-rise (p + length r) rs))
  where
    on : p + length r + length (calls_of rs) ≡ p + length (r ++ calls_of rs)
    on = omega (arith, length-append r (calls_of rs))

parts-many : {all held dropped : List ℕ} → Parts all held dropped → length held + length dropped ≡ length all
parts-many ended = omega arith
parts-many (kept x P) = let h = parts-many P in omega arith
parts-many (gone x P) = let h = parts-many P in omega arith

module _ (p : Placement) (s : Sheet) (tour : List ℕ) where
  abbrev x : Result
  x = split_by p s tour

  P : PromiseBy p s tour x
  P = promised-by s tour p

  pub plan-rises : RiseTo 0 x.ends (length x.served)
  plan-rises =
      subst (λ (es : List ℕ). RiseTo 0 es (length x.served)) P.ends-are
      (subst (λ (n : ℕ). RiseTo 0 (run_ends P.runs) n) (omega (arith, ap length P.cuts)) (ends-rise 0 (calls_in P.runs)))

  -- each call is served or dropped, and there are no more runs than served calls
  pub served-and-dropped : length x.served + length x.dropped ≡ length tour
  served-and-dropped =
      omega (arith, ap length P.served-are, length-map P.held (call_at tour), parts-many P.parted, length-count 1 (length tour))

  pub few-ends : length x.ends ≤ length x.served
  few-ends =
      omega (arith, ap length P.ends-are, ends-many 0 (calls_in P.runs), length-map P.runs (λ r. r.calls), few-runs s P.runs P.all-legal, ap length P.cuts)
