-- `evaluator::open_route` meets its contract. Assumes nothing.
use Rattle.models.specs.Load.{space_of}
use Rattle.evaluation.specs.Records.{lent, limits_of}
use Rattle.visits.proofs.Assembling.{builds}
use Rattle.visits.proofs.evaluator.open_route.Goals as goal

pub returns : goal.returns
returns c =
    let checked = c in
    let windows = checked in
    let driven = windows in
    let walked = driven in
    let placed = walked in
    let S = placed in
    let a = S.args in
    let tables = lent a.customers a.distances.now a.times.now a.size in
    builds tables (space_of a.capacity) (limits_of a.limits) a.route.now S.requires.route_value
    placed.rest_at-at.result walked.walk-calls.result checked.checked-found.result _
    placed.rest_at-at.ensures walked.walk-calls.ensures driven.open_leg-back.ensures checked.checked-found.ensures
