-- The loads of runs, and whether a run has room for one more. Definitions only.
use Rattle.std.specs.Prelude.{ℕ, ◌+◌, ◌*◌, ◌<◌, ◌≡◌, Bool, List, length, get_or}
use Rattle.definitions.specs.Load.{Load, plus, carried, load_by}
use Rattle.models.specs.Load.{UpTo}
use Rattle.improve_runs.specs.RunLists.{room, run_at}

-- the load of a run leaves room for c, by what a call asks for
unfoldable pub room_f : (ℕ → Load) → Load → ℕ → List ℕ → Bool
room_f demand capacity c run = carried (plus (load_by demand run) (demand c)) capacity

-- so many numbers has the load of a run, and so many have those of all runs that there is room for
abbrev pub measures : ℕ
measures = 2

abbrev pub all_loads : ℕ
all_loads = room * measures

-- the load of run k, from a list of numbers
abbrev pub load_in : List ℕ → ℕ → Load
load_in loads k = record { seats = get_or loads (measures * k) 0; wheelchairs = get_or loads (measures * k + 1) 0 }

-- the load of run k written, the others as they were
pub record Written (old : List ℕ) (k : ℕ) (load : Load) (new : List ℕ) : Type 0 where
  pub long : length new ≡ length old
  pub here : load_in new k ≡ load
  pub there : (j : ℕ) → (j ≡ k → ⊥) → load_in new j ≡ load_in old j

-- the list holds the loads of the runs, each at most what n calls may ask for
pub record Loaded (demand : ℕ → Load) (rs : List (List ℕ)) (n : ℕ) (loads : List ℕ) : Type 0 where
  pub long : length loads ≡ all_loads
  pub are : (k : ℕ) → k < length rs → load_in loads k ≡ load_by demand (run_at rs k)
  pub few : (k : ℕ) → k < length rs → UpTo n (load_in loads k)
