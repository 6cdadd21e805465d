-- A sheet: places (0 is the depot, the others customers), legs, limits, and, beside this record, a tour of customer numbers. Definitions
-- only. F is how a number is held that may be a float in lent memory: a whole number in all that follows.
use Rattle.std.specs.Prelude.{ℕ, ◌+◌, ◌*◌, Bool, not, ◌&&◌, List, [], ◌∷◌, map, get_or, take, Option, None, Some, option_map}
use Rattle.basics.specs.Options.{◌>>=◌, present, given}
use Rattle.basics.specs.Lists.{any}
use Rattle.definitions.specs.Domain.{is_closed}
use Rattle.definitions.specs.Load.{Load, no_load}

-- ---- the records, over any way to hold a number

-- a window: service begins from ready on, and late means above due
pub record WindowOf (F : Type 0) : Type 0 where
  pub ready : F
  pub due : F

-- one driver's break: when it starts at the earliest and at the latest, and how long it is
pub record BreakOf (F : Type 0) : Type 0 where
  pub earliest : F
  pub latest : F
  pub duration : F

-- a customer: the seats and wheelchair places asked for, how long the service is, and when it may start; record 0 is the depot's
pub record CustomerOf (F : Type 0) : Type 0 where
  pub demand : Load
  pub service : F
  pub window : Option (WindowOf F)
  -- what a unit of lateness costs; without it late is not served
  pub penalty : Option F

-- A customer by what it asks for, how long it takes, its window and its penalty. Whoever adds a field gives it a value here that changes
-- nothing; so this is for the depot and for examples, and what carries a record over names every field.
abbrev pub asking : {F : Type 0} → Load → F → Option (WindowOf F) → Option F → CustomerOf F
asking demand service window penalty = record { demand = demand; service = service; window = window; penalty = penalty }

-- what a sheet has besides its customers and legs
pub record HeadOf (F : Type 0) : Type 0 where
  pub places : ℕ
  pub capacity : Load
  -- the fixed run cost
  pub fixed : F
  pub max_distance : Option F
  pub max_duration : Option F
  pub rest : Option (BreakOf F)

pub record LegsOf (F : Type 0) : Type 0 where
  -- by rows, places squared of them
  pub distances : List F
  -- as many, or none at all
  pub times : List F

pub record SheetOf (F : Type 0) : Type 0 where
  pub head : HeadOf F
  -- a record for each place; record 0 is the depot's
  pub customers : List (CustomerOf F)
  pub legs : LegsOf F

-- the customers that a sheet has, the depot's record first; what is lent beyond them is not read
abbrev pub records : {F : Type 0} → SheetOf F → List (CustomerOf F)
records s = take s.head.places s.customers

-- the same sheet with these records alone
abbrev pub own : {F : Type 0} → SheetOf F → SheetOf F
own s = record { head = s.head; customers = records s; legs = s.legs }

-- the same records with each number held in another way
module _ {F G : Type 0} (hold : F → G) where
  abbrev pub map_window : WindowOf F → WindowOf G
  map_window w = record { ready = hold w.ready; due = hold w.due }

  abbrev pub map_break : BreakOf F → BreakOf G
  map_break b = record { earliest = hold b.earliest; latest = hold b.latest; duration = hold b.duration }

  abbrev pub map_customer : CustomerOf F → CustomerOf G
  map_customer c =
      record {
        demand = c.demand;
        service = hold c.service;
        window = option_map map_window c.window;
        penalty = option_map hold c.penalty;
      }

  abbrev pub map_head : HeadOf F → HeadOf G
  map_head h =
      record {
        places = h.places;
        capacity = h.capacity;
        fixed = hold h.fixed;
        max_distance = option_map hold h.max_distance;
        max_duration = option_map hold h.max_duration;
        rest = option_map map_break h.rest;
      }

  abbrev pub map_legs : LegsOf F → LegsOf G
  map_legs l = record { distances = map hold l.distances; times = map hold l.times }

  abbrev pub map_sheet : SheetOf F → SheetOf G
  map_sheet s = record { head = map_head s.head; customers = map map_customer s.customers; legs = map_legs s.legs }

-- ---- in whole numbers

abbrev pub Window : Type 0
Window = WindowOf ℕ

abbrev pub Break : Type 0
Break = BreakOf ℕ

abbrev pub Customer : Type 0
Customer = CustomerOf ℕ

abbrev pub Sheet : Type 0
Sheet = SheetOf ℕ

-- the depot has demand and service 0 and no window
abbrev pub depot : Customer
depot = asking no_load 0 None None

-- ---- lookups

-- the record of customer c
abbrev pub customer : Sheet → ℕ → Customer
customer s c = get_or s.customers c depot

-- what a number of a leg table says: a length, or none where there is no road
abbrev pub road : ℕ → Option ℕ
road n = given (not (is_closed n)) n

-- The leg from a to b in a table of n rows: its length, or none where there is no road. On an accepted sheet every lookup of a run lies
-- inside its table (crates/bounds, proofs/Inside), so the 0 is never read; on floats a lookup outside its table gives infinity.
abbrev pub leg : List ℕ → ℕ → ℕ → ℕ → Option ℕ
leg table n a b = road (get_or table (a * n + b) 0)

-- `get`
abbrev pub distance : Sheet → ℕ → ℕ → Option ℕ
distance s a b = leg s.legs.distances s.head.places a b

-- without a time table a time is the distance
abbrev pub time_table : {F : Type 0} → List F → List F → List F
time_table distances [] = distances
time_table distances (t ∷ ts) = t ∷ ts

-- `travel_time`
abbrev pub time : Sheet → ℕ → ℕ → Option ℕ
time s a b = leg (time_table s.legs.distances s.legs.times) s.head.places a b

-- a leg that can be driven: how far it is, and how long it takes
pub record Leg : Type 0 where
  pub length : ℕ
  pub travel : ℕ

-- The leg from a to b by both tables; none where it is closed. On an accepted sheet both close the same legs (refusal 22).
unfoldable pub drive : Sheet → ℕ → ℕ → Option Leg
drive s a b = do
  d ← distance s a b
  t ← time s a b
  Some (record { length = d; travel = t })

-- ---- lateness pay

-- a customer with window and penalty, even 0
abbrev pub soft : {F : Type 0} → CustomerOf F → Bool
soft c = present c.window && present c.penalty

unfoldable pub any_soft : {F : Type 0} → List (CustomerOf F) → Bool
any_soft cs = any soft cs

-- lateness pay is on the sheet
abbrev pub lateness_pay : Sheet → Bool
lateness_pay s = any_soft s.customers
