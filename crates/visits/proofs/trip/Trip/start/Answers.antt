-- `Trip::start` meets its contract. Assumes nothing.
use mathlib.Core.Path.{sym}
use Rattle.whole.proofs.Bits.{fl-zero}
use Rattle.visits.proofs.trip.Trip.start.Goals as goal

pub returns : goal.returns
returns c =
    let label = c.start.ensures in
    let empty = c.none.ensures in
    λ i. record { label = label i; distance = sym fl-zero i; load = empty i; prev = 0 }
