-- `stops::customer_at` meets its contract. Assumes nothing.
use Rattle.cut_stops.specs.Stops.{numbers}
use Rattle.cut_stops.proofs.Places.{record-read}
use Rattle.cut_stops.proofs.stops.customer_at.Goals as goal

pub returns : goal.returns
returns c =
    let o = c in
    let r = o in
    let a = r.args in
    record-read (numbers a.codes.now a.figures.now) a.c _ _ o.opening_of.ensures c.penalty_of.ensures
