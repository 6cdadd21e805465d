-- `evaluator::walk` meets its contract. The loop's invariant: what is written and what is left of the walk make the whole. Assumes nothing.
use mathlib.Core.Path.{refl}
use Rattle.evaluation.proofs.Reading.{read-record}
use Rattle.visits.specs.Visiting.{trip_of, visited_of}
use Rattle.visits.proofs.Walking.{call-open, turn, arrive}
use Rattle.visits.proofs.evaluator.walk.Goals as goal

pub open_leg-leg-requires : goal.open_leg-leg-requires
open_leg-leg-requires c =
    let in-loop = c in
    call-open _ _ _ _ _ _ _ _ in-loop.loop-i.invariant in-loop.loop-i-test.true

pub loop-i-preserved : goal.loop-i-preserved
loop-i-preserved c =
    let counted = c in
    let visited = counted in
    let indexed = visited in
    let driven = indexed in
    let in-loop = driven in
    let x = in-loop.loop-i in
    let blank = in-loop in
    let S = blank in
    let a = S.args in
    let index = indexed.record_index-index.ensures in
    let record_is = read-record a.customers a.distances.now a.times.now a.size _ _ _ S.well_formed.1.0.1.0.1 index.0 index.1 in
    let call = visited.visit-call in
    turn _ _ a.route.now x.visits x.list x.count (trip_of x.trip) x.i x.invariant
    (visited_of call.result) _ _ in-loop.loop-i-test.true record_is driven.open_leg-leg.ensures call.ensures.call
    _ counted.counted-count.ensures (call.ensures.counted x.i x.invariant.load-most)

pub returns : goal.returns
returns c =
    let x = c.loop-i in
    let blank = c in
    let a = blank.args in
    arrive _ _ a.route.now x.visits x.list x.count (trip_of x.trip) x.i x.invariant c.loop-i-test.false _ refl refl refl refl
