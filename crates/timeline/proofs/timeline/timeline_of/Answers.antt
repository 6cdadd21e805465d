-- `timeline::timeline_of` meets its contract. Assumes nothing.
use Rattle.models.specs.Load.{space_of}
use Rattle.evaluation.specs.Records.{lent, limits_of}
use Rattle.evaluation.specs.Tables.{leg_f}
use Rattle.evaluation.proofs.Driving.{found-closed, found-open}
use Rattle.timeline.proofs.Assembling.{times-closed}
use borrow.Author.Rules.{rules}
use Rattle.timeline.proofs.timeline.timeline_of.Goals as goal

pub returns-then-leg-gt0 : goal.returns-then-leg-gt0
returns-then-leg-gt0 c =
    let found = c in
    let looked = found in
    let a = looked.args in
    let tables = lent a.customers a.distances.now a.times.now a.size in
    times-closed tables (space_of a.capacity) (limits_of a.limits) a.place a.route.now c.closed_route.result _ _
    (found-closed (leg_f tables) a.route.now _ looked.first_closed-leg.ensures found.if-leg-gt0.true) c.closed_route.ensures

pub open_timeline-requires : goal.open_timeline-requires
open_timeline-requires c =
    let looked = c in
    let S = looked in
    let a = S.args in
    let tables = lent a.customers a.distances.now a.times.now a.size in
    record { route_len_bound = S.requires; route_value = found-open (leg_f tables) a.route.now _ looked.first_closed-leg.ensures c.if-leg-gt0.false }
