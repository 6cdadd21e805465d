-- What the improvers know of a sheet, and what they ask of a run. Definitions only.
use Rattle.std.specs.Prelude.{ℕ, ◌+◌, Bool, true, cond, List, [], ◌∷◌}
use Rattle.basics.specs.Tests.{either}
use Rattle.basics.specs.Options.{present, value_or}
use Rattle.basics.specs.Lists.{any, sum}
use Rattle.definitions.specs.Load.{Load}
use Rattle.definitions.specs.Sheet.{Sheet, customer, distance}
use Rattle.definitions.specs.Evaluation.{route_feasible}

-- what an improver is given of a sheet
pub record Given : Type 0 where
  -- the leg from one place to another; the depot is 0
  pub leg : ℕ → ℕ → ℕ
  pub demand : ℕ → Load
  pub capacity : Load
  -- the fixed run cost
  pub fixed : ℕ
  -- whether `route_feasible` is asked of a run at all
  pub asked : Bool
  -- `route_feasible`
  pub feasible : List ℕ → Bool

-- it is asked only when the sheet has a window, a limit or a break
unfoldable pub checks_needed : Sheet → Bool
checks_needed s =
    either
    (any (λ c. present c.window) s.customers
    ∷ present s.head.max_distance
    ∷ present s.head.max_duration
    ∷ present s.head.rest
    ∷ [])

-- the length of a leg; a sheet with a closed leg is refused (23), so the 0 is never read
abbrev pub open_leg : Sheet → ℕ → ℕ → ℕ
open_leg s a b = value_or 0 (distance s a b)

abbrev pub given_of : Sheet → Given
given_of s =
    record {
      leg = open_leg s;
      demand = λ c. (customer s c).demand;
      capacity = s.head.capacity;
      fixed = s.head.fixed;
      asked = checks_needed s;
      feasible = route_feasible s;
    }

-- all legs from a on, the one to the depot too
abbrev pub legs_from : (ℕ → ℕ → ℕ) → ℕ → List ℕ → ℕ
legs_from leg a [] = leg a 0
legs_from leg a (c ∷ cs) = leg a c + legs_from leg c cs

module _ (G : Given) where
  -- the distance of a run: all its legs, both depot legs too; a run without calls has none
  abbrev pub distance_of : List ℕ → ℕ
  distance_of [] = 0
  distance_of (c ∷ cs) = legs_from G.leg 0 (c ∷ cs)

  -- the distance of several runs
  abbrev pub total : List (List ℕ) → ℕ
  total = sum distance_of

  -- a run that an improver may make: feasible, where that is asked
  abbrev pub allowed : List ℕ → Bool
  allowed run = cond G.asked (G.feasible run) true
