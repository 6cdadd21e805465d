-- `gain::legs_equal` meets its contract. Assumes nothing.
use Rattle.whole.proofs.Bits.{fl-zero}
use Rattle.improve_base.specs.Gain.{legs_equal_f}
use Rattle.improve_base.proofs.gain.legs_equal.Goals as goal

pub returns-then-d : goal.returns-then-d
unfolding legs_equal_f
returns-then-d c = rw (fl-zero, c.if-d.true)

pub returns : goal.returns
unfolding legs_equal_f
returns c = rw (fl-zero, c.if-d.false)
