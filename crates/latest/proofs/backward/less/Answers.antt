-- `backward::less` meets its contract. Assumes nothing.
use Rattle.whole.proofs.Bits.{fl-zero}
use Rattle.latest.proofs.backward.less.Goals as goal

pub returns-else-by-bound : goal.returns-else-by-bound
returns-else-by-bound c = rw (c.if-by-bound.false, fl-zero)
