-- `BreakClock::finish` meets its contract. Assumes nothing.
use mathlib.Core.Path.{◌≡◌}
use Rattle.std.specs.Prelude.{None, Some}
use Rattle.clock.specs.Clock.{finish_f}
use borrow.Author.Rules.{rules}
use Rattle.clock.proofs.schedule.BreakClock.finish.Goals as goal

pub returns-in_err-l : goal.returns-in_err-l
unfolding finish_f
returns-in_err-l c =
    let e : c.counts.result ≡ None = search rules in
    rw (c.from_residual.ensures, ← c.counts.ensures, e)

pub returns : goal.returns
unfolding finish_f
returns c =
    let e : c.counts.result ≡ Some c.in_ok-l.l = search rules in
    rw (← c.counts.ensures, e) (rw c.home.ensures)
