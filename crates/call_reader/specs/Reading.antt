-- What the reader answers and writes: the code's records for those of whole numbers, each number held in a float. Definitions only.
use Rattle.std.specs.Prelude.{ℕ, ◌≡◌, List, [], ◌∷◌, map, length, Float, Option, None, Some}
use Rattle.definitions.specs.Load.{Load}
use Rattle.definitions.specs.Sheet.{WindowOf, BreakOf, CustomerOf, HeadOf}
use Rattle.definitions.specs.Reader as Reader
use Rattle.definitions.specs.Reader.{sheet, refused_at}
use Rattle.definitions.specs.Room.{written}
use Rattle.definitions.specs.Answers.{read_distances, read_times, read_tour}
use Rattle.whole.specs.Whole.{fl}
use Rattle.models.specs.Image.{fl_sheet}
use Rattle.models.specs.declared.load.Space.{Space}
use Rattle.models.specs.declared.customer.TimeWindow.{TimeWindow}
use Rattle.models.specs.declared.customer.Customer.{Customer}
use Rattle.models.specs.declared.vehicle.VehicleBreak.{VehicleBreak}
use Rattle.models.specs.declared.head.Head.{Head}
use Rattle.call_reader.specs.declared.reading.Read.{Read}
use Rattle.call_reader.specs.declared.reading.Read.TheVariants.{Refused, Sheet}

-- ---- the code's records

abbrev pub space_in : Load → Space
space_in x = record { seats = x.seats; wheelchairs = x.wheelchairs }

abbrev pub opening_in : Option (WindowOf Float) → Option TimeWindow
opening_in None = None
opening_in (Some w) = Some (record { ready = w.ready; due = w.due })

abbrev pub penalty_in : Option Float → Option Float
penalty_in None = None
penalty_in (Some p) = Some p

abbrev pub customer_in : CustomerOf Float → Customer
customer_in c =
    record {
      demand = space_in c.demand;
      service_duration = c.service;
      time_window = opening_in c.window;
      lateness_penalty = penalty_in c.penalty;
    }

abbrev pub limit_in : Option Float → Option Float
limit_in None = None
limit_in (Some max) = Some max

abbrev pub rest_in : Option (BreakOf Float) → Option VehicleBreak
rest_in None = None
rest_in (Some b) = Some (record { earliest = b.earliest; latest = b.latest; duration = b.duration })

abbrev pub head_in : HeadOf Float → Head
head_in h =
    record {
      places = h.places;
      capacity = space_in h.capacity;
      fixed_cost = h.fixed;
      limits = record { max_distance = limit_in h.max_distance; max_duration = limit_in h.max_duration; rest = rest_in h.rest };
    }

-- ---- the answer

abbrev pub read_in : Reader.Reading → Read
read_in (refused_at number word) = Refused number word
read_in (sheet s tour) =
    Sheet
    (record {
      head = head_in (fl_sheet s).head;
      customers = length s.customers;
      distances = length s.legs.distances;
      times = length s.legs.times;
      calls = length tour;
    })

-- how many records the code's answer counts
abbrev pub records_in : Read → ℕ
records_in (Refused number word) = 0
records_in (Sheet contents) = contents.customers

-- the room that is lent: for so many customers, and these lists
abbrev pub rooms_of : ℕ → (distances times : List Float) (tour : List ℕ) → List ℕ
rooms_of customers distances times tour = customers ∷ length distances ∷ length times ∷ length tour ∷ []

-- the answer, and the lists beside the customers as they are left
pub record Reads (o : Reader.Reading)
    (distances times : List Float) (tour : List ℕ) (r : Read) (distances' times' : List Float) (tour' : List ℕ) : Type 0 where
  pub answer : r ≡ read_in o
  pub distances-left : distances' ≡ written (map fl (read_distances o)) distances
  pub times-left : times' ≡ written (map fl (read_times o)) times
  pub tour-left : tour' ≡ written (read_tour o) tour
