-- `step::tick_on` meets its contract. Assumes nothing.
use mathlib.Core.Path.{◌∙◌}
use Rattle.cut_stops.specs.Stops.{numbers}
use Rattle.cut_stops.proofs.Listed.{listed-record}
use Rattle.improve_base.proofs.step.tick_on.Goals as goal

pub returns : goal.returns
returns c =
    let pushed = c in
    let read = pushed in
    let indexed = read in
    let driven = indexed in
    let a = driven.args in
    let index = indexed.record_index-index.ensures in
    let leg = driven.leg_on-leg.ensures in
    let record_is =
    read.customer_at-customer.ensures
    ∙ listed-record (numbers a.codes.now a.figures.now) a.distances.now a.times.now a.size a.cid _ index.0 index.1 in
    rw (← leg, ← record_is, pushed.push.ensures)
