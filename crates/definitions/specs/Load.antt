-- A load: what calls ask for, or what a vehicle holds, in each measure. Whoever adds a measure adds it here: a field, and a
-- part of each definition below. Definitions only.
use Rattle.std.specs.Prelude.{ℕ, ◌+◌, Bool, ◌&&◌, List, leb}
use Rattle.basics.specs.Lists.{sum}

pub record Load : Type 0 where
  pub seats : ℕ
  -- wheelchair places, the second measure: the second demand of a customer, the second capacity of a vehicle, the second load of a run
  pub wheelchairs : ℕ

-- so many seats, and nothing else
abbrev pub of_seats : ℕ → Load
of_seats n = record { seats = n; wheelchairs = 0 }

-- an empty vehicle's
abbrev pub no_load : Load
no_load = of_seats 0

abbrev pub plus : Load → Load → Load
plus a b = record { seats = a.seats + b.seats; wheelchairs = a.wheelchairs + b.wheelchairs }

-- at most that many seats, and at most that many wheelchair places
abbrev pub seated : Load → Load → Bool
seated load capacity = leb load.seats capacity.seats

abbrev pub wheeled : Load → Load → Bool
wheeled load capacity = leb load.wheelchairs capacity.wheelchairs

-- a vehicle that holds `capacity` carries the load: it is at most that in each measure
abbrev pub carried : Load → Load → Bool
carried load capacity = seated load capacity && wheeled load capacity

-- the test holds in each measure
abbrev pub each_of : (ℕ → Bool) → Load → Bool
each_of p load = p load.seats && p load.wheelchairs

-- the load of calls whose customers have these demands, and whether it is at most capacity
abbrev pub load_by : (ℕ → Load) → List ℕ → Load
load_by demand calls = record { seats = sum (λ c. (demand c).seats) calls; wheelchairs = sum (λ c. (demand c).wheelchairs) calls }

abbrev pub fits_by : (ℕ → Load) → Load → List ℕ → Bool
fits_by demand capacity calls = carried (load_by demand calls) capacity
