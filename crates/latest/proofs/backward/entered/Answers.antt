-- `backward::entered` meets its contract. Assumes nothing.
use Rattle.latest.specs.Times.{entered}
use Rattle.whole.proofs.Bits.{fl-zero}
use Rattle.latest.proofs.backward.entered.Goals as goal

pub returns-then-hours-begin : goal.returns-then-hours-begin
unfolding entered
returns-then-hours-begin c =
    let tested = c in
    rw (← tested.less-begin.ensures, tested.if-hours-begin.true) c.smaller.ensures

pub returns-else-hours-begin : goal.returns-else-hours-begin
unfolding entered
returns-else-hours-begin c = rw (← c.less-begin.ensures, c.if-hours-begin.false, fl-zero)
