-- eliminate_routes on floats, as the code has it, over runs as lists. Definitions only.
use Rattle.std.specs.Prelude.{ℕ, zero, suc, ◌≡◌, Bool, true, false, cond, ◌&&◌, List, [], ◌∷◌, length, Float, Option, None, option_map}
use Rattle.std.specs.Float.Ieee as Ieee
use Rattle.std.specs.Float.{binary64, inf}
use Rattle.basics.specs.Options.{value_or, or_else, given}
use Rattle.basics.specs.Lists.{without}
use Rattle.definitions.specs.Sort.{rising, sort}
use Rattle.definitions.specs.RunList.{calls_of, ends_of}
use Rattle.definitions.specs.Room.{written}
use Rattle.definitions.specs.Elimination.{non_empty, Parted, parted}
use Rattle.whole.specs.Whole.{fl}
use Rattle.improve_base.specs.Route.{route_distance_f}
use Rattle.improve_runs.specs.RunLists.{Runs, Sound, runs_in, run_at}
use Rattle.improve_runs.specs.Least.{by_seats}
use Rattle.route_elimination.specs.declared.route_elimination.Left.{Left}
use Rattle.place_choice.specs.Insertion.{GivenF, leg_f, demand_f}
use Rattle.route_elimination.specs.Placing.{PlacedF, place_all_f}

-- neither infinite nor NaN
abbrev pub finite_f : Float → Bool
finite_f x = Ieee.lt x (inf false) && Ieee.lt (inf true) x

-- run k, and the other runs in their order
abbrev pub part_at : List (List ℕ) → ℕ → Parted
part_at rs k = record { run = run_at rs k; rest = without k rs }

module _ (G : GivenF) where
  -- what goes with a run
  abbrev pub saved_f : List ℕ → Float
  saved_f run = Ieee.add binary64 (route_distance_f (leg_f G) run) G.fixed

  -- the run's customers by falling demand go to the others, which take them for less than is saved
  unfoldable pub emptied_f : Parted → Option (List (List ℕ))
  emptied_f p =
      let saved = saved_f p.run in
      let placed = place_all_f G (fl 0) saved (sort (by_seats (demand_f G)) p.run) p.rest in
      cond (finite_f saved) (option_map (λ (q : PlacedF). q.runs) placed) None

  unfoldable pub first_emptied_f : List Parted → Option (List (List ℕ))
  first_emptied_f [] = None
  first_emptied_f (p ∷ ps) = or_else (emptied_f p) (first_emptied_f ps)

  -- the shortest run first: what is left after the first that can go
  unfoldable pub search_f : List (List ℕ) → Option (List (List ℕ))
  search_f runs = first_emptied_f (sort (rising (λ (p : Parted). length p.run)) (parted runs))

  -- the search begins again after a success
  unfoldable pub searches_f : ℕ → List (List ℕ) → List (List ℕ)
  searches_f zero runs = non_empty runs
  searches_f (suc bound) runs = value_or (non_empty runs) (option_map (searches_f bound) (search_f (non_empty runs)))

  -- the runs that eliminate_routes gives
  unfoldable pub eliminated_f : List (List ℕ) → List (List ℕ)
  eliminated_f runs = searches_f (length runs) runs

-- what is answered: a run can go, and the runs that are left then
pub record Tries (o : Option (List (List ℕ))) (goes : Bool) (new : Runs) : Type 0 where
  pub is : given goes (runs_in new) ≡ o
  pub sound : goes ≡ true → Sound new

-- the runs that are left in the end
pub record Eliminates (answer : List (List ℕ)) (left : Runs) : Type 0 where
  pub is : runs_in left ≡ answer
  pub sound : Sound left

-- how many calls and runs are left
pub record Counts (rs : List (List ℕ)) (calls runs : ℕ) : Type 0 where
  pub calls_count : calls ≡ length (calls_of rs)
  pub runs-count : runs ≡ length rs

-- the lists for the calls and for the run ends
pub record Lists : Type 0 where
  pub calls : List ℕ
  pub ends : List ℕ

abbrev pub lists : List ℕ → List ℕ → Lists
lists calls ends = record { calls = calls; ends = ends }

-- the runs are counted, and written at the front of two lists
pub record Leaves (rs : List (List ℕ)) (r : Left) (old new : Lists) : Type 0 where
  pub counts : Counts rs r.calls r.runs
  pub calls-written : new.calls ≡ written (calls_of rs) old.calls
  pub ends-written : new.ends ≡ written (ends_of rs) old.ends
