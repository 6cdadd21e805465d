-- `evaluator::build_route` meets its contract. Assumes nothing.
use native.Mathlib.Omega.{arith}
use Rattle.models.specs.Load.{space_of}
use Rattle.evaluation.specs.Records.{lent, limits_of}
use Rattle.evaluation.specs.Tables.{leg_f}
use Rattle.evaluation.proofs.Driving.{found-closed, found-open}
use Rattle.visits.proofs.Assembling.{builds-closed}
use Rattle.visits.proofs.evaluator.build_route.Goals as goal

pub returns-then-leg-gt0 : goal.returns-then-leg-gt0
returns-then-leg-gt0 c =
    let a = c.args in
    let tables = lent a.customers a.distances.now a.times.now a.size in
    builds-closed tables (space_of a.capacity) (limits_of a.limits) a.route.now c.closed_route.result _
    (found-closed (leg_f tables) a.route.now _ c.first_closed-leg.ensures (omega (arith, c.if-leg-gt0.true))) c.closed_route.ensures

pub open_route-requires : goal.open_route-requires
open_route-requires c =
    let a = c.args in
    let tables = lent a.customers a.distances.now a.times.now a.size in
    record { route_len_bound = c.requires; route_value = found-open (leg_f tables) a.route.now _ c.first_closed-leg.ensures c.if-leg-gt0.false }
