-- `stops::stop_at` meets its contract. Assumes nothing.
use Rattle.cut_stops.specs.Stops.{numbers}
use Rattle.cut_stops.proofs.Places.{stop-read}
use Rattle.cut_stops.proofs.stops.stop_at.Goals as goal

pub returns : goal.returns
returns c =
    let r = c in
    let a = r.args in
    stop-read (numbers a.codes.now a.figures.now) a.c _ r.customer_at.ensures
