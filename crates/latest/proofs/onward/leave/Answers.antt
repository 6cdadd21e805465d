-- `onward::leave` meets its contract. Assumes nothing.
use Rattle.latest.specs.Times.{leave}
use Rattle.latest.proofs.onward.leave.Goals as goal

pub returns-then-arrival-hours : goal.returns-then-arrival-hours
unfolding leave
returns-then-arrival-hours c = rw (c.if-arrival-hours.true, c.larger.ensures)

pub returns-else-arrival-hours : goal.returns-else-arrival-hours
unfolding leave
returns-else-arrival-hours c = rw (c.if-arrival-hours.false, c.infinity.ensures)
