-- `sheet::lateness_pay` meets its contract. Assumes nothing.
use Rattle.definitions.specs.Sheet.{any_soft}
use Rattle.refuse_order.proofs.sheet.lateness_pay.Goals as goal

pub returns-then-improves : goal.returns-then-improves
unfolding any_soft
returns-then-improves c = rw c.if-improves.true c.any_applies.ensures
