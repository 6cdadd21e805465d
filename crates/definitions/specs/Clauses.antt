-- Demand 3 sentence by sentence, over what a caller is given: served customers, run ends, dropped positions and cost. Definitions only.
use Rattle.std.specs.Prelude.{ℕ, ◌≤◌, ◌≡◌, true, false, List, map, length, None}
use Rattle.basics.specs.Lists.{count}
use Rattle.definitions.specs.Sheet.{Customer, Sheet, lateness_pay}
use Rattle.definitions.specs.Run.{Run}
use Rattle.definitions.specs.RunList.{runs_of}
use Rattle.definitions.specs.Cutting.{joined, legal_cutting, cutting_cost}
use Rattle.definitions.specs.Drop.{calls_at, all_held}
use Rattle.definitions.specs.Placement.{Placement, by_clock, by_pay}
use Rattle.definitions.specs.Promise.{HasCutting, Settles, Parts, placed_run, AnyRival, ClockRival, Rival, Ties}

-- the runs that served customers and run ends make, with their breaks where the placement puts them
abbrev pub returned : Placement → Sheet → (served ends : List ℕ) → List Run
returned p s served ends = map (placed_run p s) (runs_of served ends)

-- the cutting returned is a legal cutting of the served calls
abbrev pub Legal : Placement → Sheet → (served ends : List ℕ) → Type 0
Legal p s served ends = (joined (returned p s served ends) ≡ served) × (legal_cutting s (returned p s served ends) ≡ true)

-- its run costs add up to the returned cost
abbrev pub Sum : Placement → Sheet → (served ends : List ℕ) (cost : ℕ) → Type 0
Sum p s served ends cost = cutting_cost s (returned p s served ends) ≡ cost

-- every other cutting of the served calls that is among these costs at least as much
abbrev pub LeastAmong : (List Run → Type 0) → Sheet → (served : List ℕ) (cost : ℕ) → Type 0
LeastAmong Among s served cost = (rival : List Run) → joined rival ≡ served → Among rival → cost ≤ cutting_cost s rival

-- By the clock: without lateness pay every legal one, whatever its break places; with it every legal one with breaks where the clock puts
-- them, which is stronger than asked, since it holds without lateness pay too. By least pay: every legal one, lateness pay or not.
abbrev pub Least : Placement → Sheet → (served : List ℕ) (cost : ℕ) → Type 0
Least by_clock s served cost = (lateness_pay s ≡ false → LeastAmong (AnyRival s) s served cost) × LeastAmong (ClockRival s) s served cost
Least by_pay s served cost = LeastAmong (AnyRival s) s served cost

-- of equal cost the earlier cut point is kept
abbrev pub Tied : Placement → Sheet → (served ends : List ℕ) → Type 0
Tied p s served ends = Ties s (Rival p s) (returned p s served ends)

-- A call is dropped exactly when it is, among the calls then held, the end of the shortest beginning without a legal cutting, and the drops
-- are returned in that order. When no such beginning is left, these positions are held ..
abbrev pub Drops : Sheet → (tour held dropped : List ℕ) → Type 0
Drops s tour held dropped = Settles (HasCutting s) tour (all_held tour) (record { held = held; dropped = dropped })

-- .. and their calls are the served ones
abbrev pub Served : (tour held served : List ℕ) → Type 0
Served tour held served = calls_at tour held ≡ served

-- every position of the tour, in order, is either served, that is held, or dropped, never both
abbrev pub Partition : (tour held dropped : List ℕ) → Type 0
Partition tour held dropped = Parts (count 1 (length tour)) held dropped

-- ---- `split` keeps the same of what it looks at: the sheet without windows, limits and break

abbrev pub bare_customer : Customer → Customer
bare_customer c = record { demand = c.demand; service = c.service; window = None; penalty = None }

unfoldable pub bare : Sheet → Sheet
bare s =
    record {
      head =
          record {
            places = s.head.places;
            capacity = s.head.capacity;
            fixed = s.head.fixed;
            max_distance = None;
            max_duration = None;
            rest = None;
          };
      customers = map bare_customer s.customers;
      legs = record { distances = s.legs.distances; times = s.legs.times };
    }

-- ---- all of them, with one list of positions held for the last three

pub record Clauses (p : Placement) (s : Sheet) (tour served ends dropped : List ℕ) (cost : ℕ) : Type 0 where
  pub legal : Legal p s served ends
  pub sum : Sum p s served ends cost
  pub least : Least p s served cost
  pub ties : Tied p s served ends
  pub held : List ℕ
  pub served-are : Served tour held served
  pub drops : Drops s tour held dropped
  pub partition : Partition tour held dropped
