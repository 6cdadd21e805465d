-- `route::break_of` meets its contract. Assumes nothing.
use mathlib.Core.Path.{◌≡◌}
use Rattle.std.specs.Prelude.{None, Some}
use Rattle.evaluation.specs.Route.{break_f}
use borrow.Author.Rules.{rules}
use Rattle.evaluation.proofs.route.break_of.Goals as goal

pub returns-in_default : goal.returns-in_default
unfolding break_f
returns-in_default c =
    let t = c.totals in
    let e : t.result ≡ None = search rules in
    rw (← t.ensures, e)

pub returns : goal.returns
unfolding break_f
returns c =
    let h = c in
    let t = h.totals in
    let e : t.result ≡ Some h.in-Some.home = search rules in
    rw (← t.ensures, e) (rw c.start_of-start.ensures)
