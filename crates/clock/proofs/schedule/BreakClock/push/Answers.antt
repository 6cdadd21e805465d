-- `BreakClock::push` meets its contract. Assumes nothing.
use Rattle.clock.specs.Clock.{push_f}
use Rattle.clock.proofs.schedule.BreakClock.push.Goals as goal

pub returns : goal.returns
unfolding push_f
returns c = rw (c.taken.ensures, c.skipped.ensures)
