-- `timeline::open_timeline` meets its contract. Assumes nothing.
use native.Mathlib.Omega.{arith}
use Rattle.models.specs.Load.{space_of}
use Rattle.evaluation.specs.Records.{lent, limits_of}
use Rattle.timeline.proofs.Assembling.{times}
use borrow.Author.Rules.{rules}
use Rattle.timeline.proofs.timeline.open_timeline.Goals as goal

pub returns : goal.returns
returns c =
    let checked = c in
    let missed = checked in
    let driven = missed in
    let walked = driven in
    let placed = walked in
    let S = placed in
    let a = S.args in
    let tables = lent a.customers a.distances.now a.times.now a.size in
    times tables (space_of a.capacity) (limits_of a.limits) a.place a.route.now S.requires.route_value S.requires.route_len_bound.0
    placed.given_rest-at.result walked.walk-calls.result checked.checked-found.result _ c.begins_of-begins.result missed.untaken-missing.result
    placed.given_rest-at.ensures walked.walk-calls.ensures driven.open_leg-back.ensures missed.untaken-missing.ensures c.begins_of-begins.ensures checked.checked-found.ensures
