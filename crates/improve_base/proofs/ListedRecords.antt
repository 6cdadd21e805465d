-- The tables that listed records stand for are those with the records. Assumes nothing.
use Prim.Native.Nat.{ℕ}
use mathlib.Core.Path.{◌≡◌}
use mathlib.Core.List.{List, map}
use lib.Ieee.{Float}
use Rattle.models.specs.declared.customer.Customer.{Customer}
use Rattle.models.specs.Records.{customer_of}
use Rattle.evaluation.specs.Records.{lent}
use Rattle.cut_stops.specs.Stops.{Numbers, records_in, listed}

pub listed-records : (customers : List Customer) (distances times : List Float) (size : ℕ) (x : Numbers) → records_in x ≡ map customer_of customers
    → listed x distances times size ≡ lent customers distances times size
listed-records customers distances times size x e = rw e
