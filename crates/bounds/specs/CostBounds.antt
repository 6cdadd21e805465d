-- The bound of the cost of runs and cuttings, and of the distances that the improvers sum up.
use Rattle.std.specs.Prelude.{ℕ, ◌+◌, ◌*◌, ◌≤◌, ◌≡◌, true, not, List, [], length, Option, None, Some}
use Rattle.basics.specs.Lists.{is_empty}
use Rattle.definitions.specs.Domain.{most_calls, most_number}
use Rattle.definitions.specs.Run.{Run}
use Rattle.definitions.specs.Clock.{Arc}
use Rattle.bounds.specs.Bounds.{most_pay}

-- what a call adds to the cost of a cutting at the most: a run's fixed cost and two legs, and its lateness pay
abbrev pub most_cost : ℕ
most_cost = 3 * most_number + most_pay

-- and to the distance of runs: two legs
abbrev pub most_far : ℕ
most_far = 2 * most_number

-- ---- a run

-- the run has a call
abbrev pub Called : Run → Type 0
Called r = not (is_empty r.calls) ≡ true

-- a way to price runs by which no call costs more than `most_cost`
pub record Priced (arc : List ℕ → Option Arc) : Type 0 where
  pub no_run : arc [] ≡ None
  pub run-most : (calls : List ℕ) (a : Arc) → length calls ≤ most_calls → arc calls ≡ Some a → a.cost ≤ length calls * most_cost
