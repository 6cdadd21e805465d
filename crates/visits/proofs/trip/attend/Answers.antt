-- `trip::attend` meets its contract. Assumes nothing.
use mathlib.Core.Path.{◌≡◌}
use Rattle.std.specs.Prelude.{None, Some}
use Rattle.visits.specs.Visiting.{served_f}
use borrow.Author.Rules.{rules}
use Rattle.visits.proofs.trip.attend.Goals as goal

pub returns-in_default : goal.returns-in_default
unfolding served_f
returns-in_default c =
    let e : c.enter.result ≡ None = search rules in
    rw (← c.enter.ensures, e) (rw (← c.service_start.ensures))

pub returns : goal.returns
unfolding served_f
returns c =
    let e : c.enter.result ≡ Some c.in-Some.l = search rules in
    rw (← c.enter.ensures, e)
