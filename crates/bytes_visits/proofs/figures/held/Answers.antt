-- `figures::held` meets its contract. Assumes nothing.
use borrow.Author.Tests.{le-leb, lt-leb}
use Rattle.whole.specs.Whole.{fl, limit}
use Rattle.whole.proofs.Bits.{fl-zero}
use Rattle.bytes_visits.specs.Rows.{held_f}
use Rattle.bytes_visits.proofs.figures.held.Goals as goal

pub returns-then-n-le9007199254740992 : goal.returns-then-n-le9007199254740992
unfolding held_f fl
returns-then-n-le9007199254740992 c = rw (le-leb _ limit c.if-n-le9007199254740992.true)

pub returns-else-n-le9007199254740992 : goal.returns-else-n-le9007199254740992
unfolding held_f
returns-else-n-le9007199254740992 c = rw (lt-leb _ limit c.if-n-le9007199254740992.false, fl-zero)
