-- A lookup in a table of floats, as the code has it. Definitions only.
use Rattle.std.specs.Prelude.{ℕ, ◌+◌, ◌*◌, Bool, false, cond, ◌&&◌, List, ltb, Float, get_or, Option, None, Some}
use Rattle.std.specs.Float.{inf}
use Rattle.std.specs.Float.Ieee as Ieee
use Rattle.basics.specs.Options.{◌>>=◌}
use Rattle.definitions.specs.Domain.{no_road}
use Rattle.definitions.specs.Sheet.{time_table}
use Rattle.whole.specs.Whole.{fl}
use Rattle.distance.specs.declared.leg.Leg.{Leg}

-- what stands in row `from` and column `to` of a table with `size` rows; infinity outside the table
unfoldable pub number_f : List Float → ℕ → ℕ → ℕ → Float
number_f table size from to = cond (ltb from size && ltb to size) (get_or table (from * size + to) (inf false)) (inf false)

-- the number of a closed leg
unfoldable pub is_closed_f : Float → Bool
is_closed_f x = Ieee.eq x (fl no_road)

-- what a number of a leg table says: a length, or none where there is no road
unfoldable pub road_f : Float → Option Float
road_f x = cond (is_closed_f x) None (Some x)

-- a leg's length by a table; outside the table it is infinity
abbrev pub lookup_f : List Float → ℕ → ℕ → ℕ → Option Float
lookup_f table size from to = road_f (number_f table size from to)

-- the leg by both tables; none where it is closed
unfoldable pub drive_f : (distances times : List Float) → ℕ → ℕ → ℕ → Option Leg
drive_f distances times size from to = do
  d ← lookup_f distances size from to
  t ← lookup_f (time_table distances times) size from to
  Some (record { distance = d; time = t })

-- ---- what the code's answers mean
