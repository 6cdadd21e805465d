-- What the code's structs and enums hold, as the records of crates/definitions over floats. Definitions only.
use Rattle.std.specs.Prelude.{false, pos, Float, Option, None, Some}
use Rattle.std.specs.Float.{fin}
use Rattle.definitions.specs.Sheet.{WindowOf, BreakOf, CustomerOf, HeadOf}
use Rattle.models.specs.Load.{seat_space, space_of}
use Rattle.models.specs.declared.customer.TimeWindow.{TimeWindow}
use Rattle.models.specs.declared.customer.Customer.{Customer}
use Rattle.models.specs.declared.vehicle.VehicleBreak.{VehicleBreak}
use Rattle.models.specs.declared.head.Head.{Head}

abbrev pub window_of : TimeWindow → WindowOf Float
window_of w = record { ready = w.ready; due = w.due }

abbrev pub opening_of : Option TimeWindow → Option (WindowOf Float)
opening_of None = None
opening_of (Some w) = Some (window_of w)

abbrev pub customer_of : Customer → CustomerOf Float
customer_of c =
    record {
      demand = space_of c.demand;
      service = c.service_duration;
      window = opening_of c.time_window;
      penalty = c.lateness_penalty;
    }

-- the depot's record: no demand, no service time, no window, no penalty
abbrev pub depot_record : Customer
depot_record = record { demand = seat_space 0; service_duration = fin false 0 (pos 0); time_window = None; lateness_penalty = None }

abbrev pub break_of : VehicleBreak → BreakOf Float
break_of b = record { earliest = b.earliest; latest = b.latest; duration = b.duration }

abbrev pub rest_of : Option VehicleBreak → Option (BreakOf Float)
rest_of None = None
rest_of (Some b) = Some (break_of b)

-- what stands before the customers
abbrev pub head_of : Head → HeadOf Float
head_of h =
    record {
      places = h.places;
      capacity = space_of h.capacity;
      fixed = h.fixed_cost;
      max_distance = h.limits.max_distance;
      max_duration = h.limits.max_duration;
      rest = rest_of h.limits.rest;
    }
