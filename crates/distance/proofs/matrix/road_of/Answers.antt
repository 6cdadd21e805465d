-- `matrix::road_of` meets its contract. Assumes nothing.
use Rattle.distance.specs.Lookup.{road_f}
use Rattle.distance.proofs.matrix.road_of.Goals as goal

pub returns-then-is_closed : goal.returns-then-is_closed
unfolding road_f
returns-then-is_closed c = rw (← c.is_closed.ensures, c.if-is_closed.true)

pub returns-else-is_closed : goal.returns-else-is_closed
unfolding road_f
returns-else-is_closed c = rw (← c.is_closed.ensures, c.if-is_closed.false)
