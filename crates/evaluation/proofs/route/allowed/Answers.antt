-- `route::allowed` meets its contract. Assumes nothing.
use mathlib.Core.Path.{◌≡◌, sym, ◌∙◌}
use Rattle.std.specs.Prelude.{None, Some}
use Rattle.evaluation.specs.Route.{allowed_f}
use borrow.Author.Rules.{rules}
use Rattle.evaluation.proofs.route.allowed.Goals as goal

pub returns-in_err-s : goal.returns-in_err-s
unfolding allowed_f
returns-in_err-s c =
    let e : c.totals.result ≡ None = search rules in
    rw (c.from_residual.ensures, ← c.totals.ensures, e)

pub returns-then-allow : goal.returns-then-allow
unfolding allowed_f
returns-then-allow c =
    let e : c.totals.result ≡ Some c.in_ok-s.s = search rules in
    rw (← c.totals.ensures, e) (rw (sym c.allow.ensures ∙ c.if-allow.true))

pub returns-else-allow : goal.returns-else-allow
unfolding allowed_f
returns-else-allow c =
    let e : c.totals.result ≡ Some c.in_ok-s.s = search rules in
    rw (← c.totals.ensures, e) (rw (sym c.allow.ensures ∙ c.if-allow.false))
