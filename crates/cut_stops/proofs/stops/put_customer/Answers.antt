-- `stops::put_customer` meets its contract. Assumes nothing.
use Prim.Native.Nat.{◌*◌}
use Rattle.models.specs.Records.{customer_of}
use Rattle.cut_stops.specs.Stops.{codes_each, figures_each}
use Rattle.cut_stops.proofs.Places.{codes-stored, figures-stored}
use Rattle.cut_stops.proofs.stops.put_customer.Goals as goal

pub returns : goal.returns
returns c =
    let a = c.args in record { codes_after = codes-stored (customer_of a.customer) (codes_each * a.c) a.codes.now _ _ c.opening_code.ensures c.penalty_code.ensures; figures_after = figures-stored (customer_of a.customer) (figures_each * a.c) a.figures.now _ _ c.opening_times-times.ensures c.penalty_price.ensures }
