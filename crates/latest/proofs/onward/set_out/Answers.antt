-- `onward::set_out` meets its contract. Assumes nothing.
use Rattle.whole.proofs.Bits.{fl-zero}
use Rattle.latest.proofs.onward.set_out.Goals as goal

pub returns : goal.returns
returns c = rw (fl-zero, c.infinity.ensures)
