-- `onward::rested` meets its contract. Assumes nothing.
use Rattle.latest.specs.Times.{rested}
use Rattle.latest.proofs.onward.rested.Goals as goal

pub returns-then-start-day : goal.returns-then-start-day
unfolding rested
returns-then-start-day c = rw (← c.larger-start.ensures, c.if-start-day.true)

pub returns-else-start-day : goal.returns-else-start-day
unfolding rested
returns-else-start-day c = rw (← c.larger-start.ensures, c.if-start-day.false, c.infinity.ensures)
