-- The words of what is made of a run list. Definitions only.
use Rattle.std.specs.Prelude.{ℕ, ◌≤◌, ◌≡◌, Bool, false, cond, ◌||◌, List, [], ◌∷◌, ◌++◌, map, Float, length, take, replicate}
use Rattle.basics.specs.Lists.{any}
use Rattle.definitions.specs.Sheet.{soft}
use Rattle.definitions.specs.Refusals.{ends_fall}
use Rattle.definitions.specs.Room.{written}
use Rattle.models.specs.Load.{space_of}
use Rattle.models.specs.Records.{customer_of}
use Rattle.evaluation.specs.Records.{lent, limits_of}
use Rattle.evaluation.specs.Route.{feasible_f, cost_f}
use Rattle.visits.specs.Building.{build_route_f}
use Rattle.improve_base.specs.Leg.{AllOpen, shut}
use Rattle.improve_base.specs.Search.{search_f}
use Rattle.two_opt.specs.TwoOpt.{improved_f, improved_distance_f}
use Rattle.place_choice.specs.Insertion.{GivenF}
use Rattle.route_elimination.specs.Elimination.{eliminated_f}
use Rattle.sheet_loaded.specs.declared.load.Loaded.{Loaded}
use Rattle.test_runs.specs.declared.runs.Topic.{Topic}
use Rattle.test_runs.specs.declared.runs.Topic.TheVariants.{Visits, Evaluation, Reversal, Calls}
use Rattle.test_runs.specs.Words.{Words, each, line, figure, numbers, built_lines, evaluation_line}

-- not too many calls and run ends, and these rise to the last call
pub record RunList (calls ends : List ℕ) : Type 0 where
  pub few-calls : length calls ≤ 128
  pub few-ends : length ends ≤ 128
  pub rising : ends_fall 0 ends (length calls) ≡ false

-- what is asked of the tables for what is said of a run: it is reversed only where no leg is closed
abbrev pub Drivable : Topic → (distances times : List Float) → Type 0
Drivable Visits distances times = Unit {0}
Drivable Evaluation distances times = Unit {0}
Drivable Reversal distances times = AllOpen distances × AllOpen times
Drivable Calls distances times = Unit {0}

-- a sheet that is held, with its tables
abbrev pub given_in : Loaded → List Float → List Float → GivenF
given_in held distances times =
    let head = held.head in
    record {
      tables = lent held.customers distances times head.places;
      capacity = space_of head.capacity;
      fixed = head.fixed_cost;
      search = search_f (map customer_of held.customers) head.places (limits_of head.limits);
    }

module _ (G : GivenF) where
  -- the calls of a run after reversals: as many as the run has, at the front of the list that they are written to
  abbrev pub reversed_calls : List ℕ → List ℕ
  reversed_calls run = take (length run) (written (improved_f G.tables G.search run) (replicate 128 0))

  -- the lines on one run
  unfoldable pub run_words : Topic → List ℕ → Words
  run_words Visits run = built_lines (build_route_f G.tables G.capacity G.search.limits run)
  run_words Evaluation run =
      evaluation_line (feasible_f G.tables G.search.limits run) (cost_f G.tables G.search.limits run)
  run_words Reversal run =
      line "reversed" (figure (improved_distance_f G.tables G.search run) ∷ numbers (reversed_calls run))
  run_words Calls run = line "left" (numbers run)

  -- some customer's lateness is paid for
  abbrev pub pays : Bool
  pays = any soft (take G.tables.size G.tables.customers)

  -- the improvers don't take the sheet: they take neither such pay nor a closed leg
  abbrev pub unimproved : Bool
  unimproved = pays || shut G.tables.distances G.tables.times

  -- on a sheet that they take: each run reversed, and the runs left by elimination
  abbrev pub improved_words : List (List ℕ) → Words
  improved_words runs = each (run_words Reversal) runs ++ each (run_words Calls) (eliminated_f G runs)

  -- the visits of each run, whether it may be made and what it costs, and what the improvers make of the runs
  abbrev pub runs_words : List (List ℕ) → Words
  runs_words runs = each (run_words Visits) runs ++ each (run_words Evaluation) runs ++ cond unimproved [] (improved_words runs)
