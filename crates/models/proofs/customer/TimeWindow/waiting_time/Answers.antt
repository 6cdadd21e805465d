-- `TimeWindow::waiting_time` meets its contract. Assumes nothing.
use Rattle.whole.proofs.Bits.{fl-zero}
use Rattle.models.proofs.customer.TimeWindow.waiting_time.Goals as goal

pub returns-else-arrival-self : goal.returns-else-arrival-self
returns-else-arrival-self c = rw (fl-zero, c.if-arrival-self.false)
