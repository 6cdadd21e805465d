-- `Timed::start` meets its contract. Assumes nothing.
use mathlib.Core.Path.{sym}
use Rattle.whole.proofs.Bits.{fl-zero}
use Rattle.evaluation.proofs.schedule.Timed.start.Goals as goal

pub returns : goal.returns
returns c = (c.new.ensures, sym fl-zero)
