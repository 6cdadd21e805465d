-- `backward::in_time` meets its contract. Assumes nothing.
use Rattle.latest.specs.Times.{in_time}
use Rattle.latest.proofs.backward.in_time.Goals as goal

pub returns-then-left-travel : goal.returns-then-left-travel
unfolding in_time
returns-then-left-travel c = rw c.if-left-travel.true

pub returns : goal.returns
unfolding in_time
returns c = rw c.if-left-travel.false
