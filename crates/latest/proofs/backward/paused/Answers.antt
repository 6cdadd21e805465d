-- `backward::paused` meets its contract. Assumes nothing.
use Rattle.latest.specs.Times.{paused}
use Rattle.whole.proofs.Bits.{fl-zero}
use Rattle.latest.proofs.backward.paused.Goals as goal

pub returns-then-day-start : goal.returns-then-day-start
unfolding paused
returns-then-day-start c = rw (← c.less.ensures, ← c.smaller-start.ensures, c.if-day-start.true)

pub returns-else-day-start : goal.returns-else-day-start
unfolding paused
returns-else-day-start c = rw (← c.less.ensures, ← c.smaller-start.ensures, c.if-day-start.false, fl-zero)
