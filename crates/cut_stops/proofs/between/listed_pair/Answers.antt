-- `between::listed_pair` meets its contract. Assumes nothing.
use Rattle.distance.specs.Lookup.{road_f}
use Rattle.cut_stops.specs.Stops.{listed_as, pair_f}
use Rattle.cut_stops.proofs.between.listed_pair.Goals as goal

pub returns-then-is_closed : goal.returns-then-is_closed
unfolding listed_as pair_f road_f
returns-then-is_closed c = rw (← c.is_closed.ensures, c.if-is_closed.true)

pub returns-then-is_closed-2 : goal.returns-then-is_closed-2
unfolding listed_as pair_f road_f
returns-then-is_closed-2 c =
    let first = c in
    rw (← first.is_closed.ensures, first.if-is_closed.false, ← c.is_closed-2.ensures, c.if-is_closed-2.true)

pub returns : goal.returns
unfolding listed_as pair_f road_f
returns c =
    let first = c in
    rw (← first.is_closed.ensures, first.if-is_closed.false, ← c.is_closed-2.ensures, c.if-is_closed-2.false)
