-- `TimeWindow::lateness` meets its contract. Assumes nothing.
use Rattle.whole.proofs.Bits.{fl-zero}
use Rattle.models.proofs.customer.TimeWindow.lateness.Goals as goal

pub returns : goal.returns
returns c = rw fl-zero c.larger.ensures
