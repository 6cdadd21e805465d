-- `Label::start` meets its contract. Assumes nothing.
use Rattle.whole.proofs.Bits.{fl-zero}
use Rattle.clock.proofs.schedule.Label.start.Goals as goal

pub returns : goal.returns
returns c = rw fl-zero
