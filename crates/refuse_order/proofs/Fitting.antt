-- What a record of the code owns says that its floats are those of the format. Assumes nothing.
use Prim.Native.Nat.{ℕ, suc, ◌<◌}
use native.Mathlib.Omega.{arith}
use mathlib.Core.List.{List, [], ◌∷◌, map}
use lib.ListN.{length, get_or}
use lib.Ieee.{Float}
use mir.Val.{Val}
use denote.Array.{each}
use denote.Shadow.{shadow}
use denote.Floats.{passes}
use denote.Builtin.{f64}
use denote.Struct.Declared as Struct
use Rattle.basics.specs.Options.{Holds}
use Rattle.basics.specs.Lists.{All}
use Rattle.models.specs.declared.customer.TimeWindow.{TimeWindow}
use Rattle.std.specs.Prelude.{Option, None, Some}
use Rattle.models.specs.declared.customer.Customer.{Customer}
use Rattle.models.specs.declared.vehicle.VehicleBreak.{VehicleBreak}
use Rattle.models.specs.Records.{window_of, opening_of, customer_of, break_of, rest_of}
use Rattle.models.specs.contracts.customer.TimeWindow as TimeWindowRow
use Rattle.models.specs.contracts.customer.Customer as CustomerRow
use Rattle.models.specs.contracts.vehicle.VehicleBreak as VehicleBreakRow
use Rattle.std.specs.contracts.option.Option.{the_row as OptionOf}
use Rattle.models.specs.declared.head.Head.{Head}
use Rattle.models.specs.contracts.head.Head as HeadRow
use Rattle.refuse_order.proofs.Image.{Fit, FitWindow, FitBreak, FitCustomer}

-- ---- of a customer

-- a penalty, or a limit
fit-number : (o : Option Float) (us : List Val) → shadow ((OptionOf f64).own_val o us) → Holds Fit o
fit-number None us h = tt
fit-number (Some x) us h = passes _ h.1.1.1.1.0.1

fit-window : (w : TimeWindow) (us : List Val) → shadow ((Struct.row TimeWindowRow.the_type).own_val w us) → FitWindow (window_of w)
fit-window w us h = record { ready = passes _ h.1.1.0.1; due = passes _ h.1.1.1.0.1 }

fit-opening : (o : Option TimeWindow) (us : List Val) → shadow ((OptionOf (Struct.row TimeWindowRow.the_type)).own_val o us) → Holds FitWindow (opening_of o)
fit-opening None us h = tt
fit-opening (Some w) us h = fit-window w _ h.1.1.1.1.0

pub fit-customer : (c : Customer) (us : List Val) → shadow ((Struct.row CustomerRow.the_type).own_val c us) → FitCustomer (customer_of c)
fit-customer c us h =
    record {
      service = passes _ h.1.1.1.0.1;
      window = fit-opening c.time_window _ h.1.1.1.1.0;
      penalty = fit-number c.lateness_penalty _ h.1.1.1.1.1.0;
    }

-- of each customer of an array or a slice
pub fit-customers : (cs : List Customer) (us : List Val) → shadow (each Customer (Struct.row CustomerRow.the_type).own_val cs us) → All FitCustomer (map customer_of cs)
fit-customers [] us h = tt
fit-customers (c ∷ cs) [] h = absurd h
fit-customers (c ∷ cs) (u ∷ us) h = (fit-customer c (u ∷ []) h.0, fit-customers cs us h.1)

-- ---- of a head

fit-break : (b : VehicleBreak) (us : List Val) → shadow ((Struct.row VehicleBreakRow.the_type).own_val b us) → FitBreak (break_of b)
fit-break b us h = record { earliest = passes _ h.1.1.0.1; latest = passes _ h.1.1.1.0.1; duration = passes _ h.1.1.1.1.0.1 }

fit-rest : (r : Option VehicleBreak) (us : List Val) → shadow ((OptionOf (Struct.row VehicleBreakRow.the_type)).own_val r us) → Holds FitBreak (rest_of r)
fit-rest None us h = tt
fit-rest (Some b) us h = fit-break b _ h.1.1.1.1.0

pub record FitHead (head : Head) : Type 0 where
  pub fixed : Fit head.fixed_cost
  pub max_distance : Holds Fit head.limits.max_distance
  pub max_duration : Holds Fit head.limits.max_duration
  pub rest : Holds FitBreak (rest_of head.limits.rest)

pub fit-head : (head : Head) (us : List Val) → shadow ((Struct.row HeadRow.the_type).own_val head us) → FitHead head
fit-head head us h =
    let l = h.1.1.1.1.1.0 in
    record {
      fixed = passes _ h.1.1.1.1.0.1;
      max_distance = fit-number head.limits.max_distance _ l.1.1.0;
      max_duration = fit-number head.limits.max_duration _ l.1.1.1.0;
      rest = fit-rest head.limits.rest _ l.1.1.1.1.0;
    }

-- ---- of a table

pub fit-table : (l : List Float) (d : Float) → ((i : ℕ) → i < length l → Fit (get_or l i d)) → All Fit l
fit-table [] d h = tt
fit-table (x ∷ l) d h = (h 0 (omega arith), fit-table l d (λ i k. h (suc i) (omega arith)))
