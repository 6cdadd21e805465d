-- A cutting divides calls, in order, into runs. The least cost is Prins's split of a tour (2004), a shortest path: the cut
-- points are nodes, a run between two of them is an arc that costs what the run does, and the best cutting of the calls
-- before a cut point is its label. Definitions only.
use Rattle.std.specs.Prelude.{ℕ, suc, ◌+◌, Bool, cond, ltb, Option, None, Some}
use mathlib.Core.List.{List, [], ◌∷◌, ◌++◌, map, tail}
use Rattle.basics.specs.Options.{◌>>=◌, present}
use Rattle.basics.specs.Lists.{all, sum}
use Rattle.definitions.specs.Sheet.{Sheet}
use Rattle.definitions.specs.Run.{Run, legal, run_cost}
use Rattle.definitions.specs.Clock.{Arc}
use Rattle.definitions.specs.RunList.{calls_of, ends_of}

-- ---- cuttings: a list of runs

-- the calls of each run
abbrev pub calls_in : List Run → List (List ℕ)
calls_in runs = map (λ r. r.calls) runs

-- the calls of the runs, one run after the other
abbrev pub joined : List Run → List ℕ
joined runs = calls_of (calls_in runs)

-- the runs' ends: the number of calls up to each
abbrev pub run_ends : List Run → List ℕ
run_ends runs = ends_of (calls_in runs)

-- a cutting is legal when all its runs are, and its cost is the sum of their run costs; no run is the
-- one cutting of no calls, legal, at cost 0
abbrev pub legal_cutting : Sheet → List Run → Bool
legal_cutting s runs = all (legal s) runs

abbrev pub cutting_cost : Sheet → List Run → ℕ
cutting_cost s runs = sum (run_cost s) runs

-- ---- the least cost, for any way to price a run

-- a cutting of a beginning of the calls, and its cost
pub record Best : Type 0 where
  pub cost : ℕ
  pub runs : List Run

-- a new cost must be strictly lower to replace
abbrev pub lower : Best → Best → Bool
lower new old = ltb new.cost old.cost

abbrev pub better : Option Best → Option Best → Option Best
better None old = old
better (Some new) None = Some new
better (Some new) (Some old) = cond (lower new old) (Some new) (Some old)

-- a cut point: the best cutting of the calls before it, if they have a legal one, and the calls since
pub record Point : Type 0 where
  pub best : Option Best
  pub since : List ℕ

-- each candidate run is a stretch that starts at a cut point: it grows by a call
abbrev pub longer : ℕ → Point → Point
longer c p = record { best = p.best; since = p.since ++ (c ∷ []) }

-- before any call
abbrev pub nothing : Best
nothing = record { cost = 0; runs = [] }

module _ (arc : List ℕ → Option Arc) where
  -- the cutting whose last run begins at the point
  abbrev pub close : Point → Option Best
  close p = do
    b ← p.best
    r ← arc p.since
    Some (record { cost = b.cost + r.cost; runs = b.runs ++ (record { calls = p.since; place = r.place } ∷ []) })

  -- the cut points in order; equal keeps the earlier one
  abbrev pub least : Option Best → List Point → Option Best
  least old [] = old
  least old (p ∷ ps) = least (better (close p) old) ps

  -- one more call, and one more cut point after it
  abbrev pub grow : List Point → ℕ → List Point
  grow ps c = map (longer c) ps ++ (record { best = least None (map (longer c) ps); since = [] } ∷ [])

  unfoldable pub points_from : List Point → List ℕ → List Point
  points_from ps [] = ps
  points_from ps (c ∷ cs) = points_from (grow ps c) cs

  -- the cut points of calls: one for each beginning, the empty one first
  abbrev pub points : List ℕ → List Point
  points calls = points_from (record { best = Some nothing; since = [] } ∷ []) calls

-- the best of the last point
abbrev pub last_best : Option Best → List Point → Option Best
last_best b [] = b
last_best b (p ∷ ps) = last_best p.best ps

-- the number of the first point without a cutting
abbrev pub shortest : ℕ → List Point → Option ℕ
shortest j [] = None
shortest j (p ∷ ps) = cond (present p.best) (shortest (suc j) ps) (Some j)

module _ (arc : List ℕ → Option Arc) where
  -- the cutting of all the calls with the least cost, of equals the one with the earlier cut points
  unfoldable pub cheapest : List ℕ → Option Best
  cheapest calls = last_best None (points arc calls)

  -- the last call, numbered from 0, of the shortest beginning without a legal cutting (the first point is before any call, and has one)
  unfoldable pub stuck : List ℕ → Option ℕ
  stuck calls = shortest 0 (tail (points arc calls))
