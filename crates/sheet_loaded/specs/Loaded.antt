-- A sheet and its tour as they are read into lent arrays. Definitions only.
use Rattle.std.specs.Prelude.{ℕ, ◌≡◌, List, map, Float, length, take}
use Rattle.whole.specs.Whole.{fl}
use Rattle.definitions.specs.Sheet.{Sheet}
use Rattle.definitions.specs.Room.{written}
use Rattle.models.specs.Records.{customer_of}
use Rattle.models.specs.Image.{fl_customer}
use Rattle.sheet_read.specs.Parts.{depots}
use Rattle.sheet_loaded.specs.declared.load.Loaded.{Loaded}
use Rattle.sheet_loaded.specs.Held.{InMemory}

-- the arrays, as they are before or after the reading
pub record Arrays : Type 0 where
  pub distances : List Float
  pub times : List Float
  pub tour : List ℕ

abbrev pub arrays : (distances times : List Float) (tour : List ℕ) → Arrays
arrays distances times tour = record { distances = distances; times = times; tour = tour }

-- the tables and the tour stand at the front of the arrays, and with them the sheet is in memory
pub record Holds (s : Sheet) (calls : List ℕ) (l : Loaded) (old new : Arrays) : Type 0 where
  pub far-count : l.distance_count ≡ length (map fl s.legs.distances)
  pub long-count : l.time_count ≡ length (map fl s.legs.times)
  pub calls_count : l.calls ≡ length calls
  pub distances-are : new.distances ≡ written (map fl s.legs.distances) old.distances
  pub times-are : new.times ≡ written (map fl s.legs.times) old.times
  pub tour-is : new.tour ≡ written calls old.tour
  pub customers-are : map customer_of l.customers ≡ written (map fl_customer s.customers) depots
  pub in_memory :
      InMemory s (take l.calls new.tour) l.head l.customers
      (take l.distance_count new.distances) (take l.time_count new.times)
