-- `Trip::visit` meets its contract. Assumes nothing.
use Rattle.models.specs.Records.{customer_of}
use Rattle.visits.specs.Visiting.{rest_at_of, trip_of}
use Rattle.visits.proofs.Walking.{call-is}
use Rattle.visits.proofs.trip.Trip.visit.Goals as goal

pub returns : goal.returns
returns c =
    let loaded = c in
    let attended = loaded in
    let readied = attended in
    let a = readied.args in
    let sum = loaded.plus-load.ensures in record {
      call = call-is (trip_of a.self) (rest_at_of a.rest) a.index a.cid (customer_of a.customer) a.leg.distance a.leg.time _ _ _ _
          readied.ready_at-ready.ensures attended.attend-call.ensures c.due_or_zero.ensures sum.result_value;
      counted = sum.by_index;
    }
