-- `leg::read_between` meets its contract. Assumes nothing.
use Rattle.improve_base.proofs.OpenLegs.{drive-open}
use Rattle.improve_base.proofs.leg.read_between.Goals as goal

pub returns : goal.returns
returns c =
    let far = c in
    let s = far in
    let a = s.args in
    drive-open a.distances.now a.times.now a.size a.from a.to s.requires _ _ far.looked_up.ensures c.time_looked_up.ensures
