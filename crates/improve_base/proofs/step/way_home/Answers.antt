-- `step::way_home` meets its contract. Assumes nothing.
use Rattle.improve_base.specs.Prefix.{home_from_f}
use Rattle.improve_base.proofs.step.way_home.Goals as goal

pub returns : goal.returns
unfolding home_from_f
returns c =
    let back = c.leg_on-back.ensures in
    rw (c.home.ensures, ← back)
