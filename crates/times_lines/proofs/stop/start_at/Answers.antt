-- `stop::start_at` meets its contract. Assumes nothing.
use borrow.Author.Tests.{eq-eqb, ne_eqb}
use Rattle.times_lines.specs.Told.{start_at}
use Rattle.times_lines.proofs.stop.start_at.Goals as goal

pub returns-then-place-k : goal.returns-then-place-k
unfolding start_at
returns-then-place-k c = rw (eq-eqb _ _ c.if-place-k.true)

pub returns-else-place-k : goal.returns-else-place-k
unfolding start_at
returns-else-place-k c = rw (ne_eqb _ _ c.if-place-k.false)
