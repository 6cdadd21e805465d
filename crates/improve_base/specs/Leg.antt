-- Where a leg stands in a table, and the legs of tables that close none. Definitions only.
use Rattle.std.specs.Prelude.{ℕ, ◌+◌, ◌*◌, ◌<◌, ◌≡◌, Bool, ◌||◌, List, Float, Some}
use Rattle.basics.specs.Lists.{All, any}
use Rattle.distance.specs.Lookup.{is_closed_f, number_f, road_f}
use Rattle.distance.specs.declared.leg.Leg.{Leg}
use Rattle.evaluation.specs.Records.{Tables}
use Rattle.improve_base.specs.declared.leg.LegAt.{LegAt}

-- no leg of the table is closed: each of its numbers is a length
unfoldable pub AllOpen : List Float → Type 0
AllOpen table = All (λ (x : Float). road_f x ≡ Some x) table

-- one of the two tables closes a leg
abbrev pub shut : (distances times : List Float) → Bool
shut distances times = any is_closed_f distances || any is_closed_f times

-- the distance from a to b, where none is closed
abbrev pub distance_f : Tables → ℕ → ℕ → Float
distance_f t a b = number_f t.distances t.size a b

-- a leg that is read, without its cell
abbrev pub leg_of : LegAt → Leg
leg_of l = record { distance = l.distance; time = l.time }

-- if it is one of so many cells, it is that of the row and the column
pub record CellOf (size from to many cell : ℕ) : Type 0 where
  pub found : cell < many → (from < size) × (to < size) × (cell ≡ from * size + to)
