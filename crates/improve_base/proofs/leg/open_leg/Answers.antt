-- `leg::open_leg` meets its contract. Assumes nothing.
use native.Mathlib.Omega.{arith}
use Rattle.distance.proofs.Ways.{inside}
use Rattle.improve_base.proofs.leg.open_leg.Goals as goal

pub returns : goal.returns
returns c =
    let reckoned = c in
    let a = reckoned.args in
    inside a.table.now a.size a.from a.to _ (omega arith) (omega arith) (omega arith)
