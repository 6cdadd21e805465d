-- `route::route_eval` meets its contract. Assumes nothing.
use mathlib.Core.Path.{◌≡◌}
use Rattle.std.specs.Prelude.{None, Some}
use Rattle.evaluation.specs.Route.{eval_f}
use borrow.Author.Rules.{rules}
use Rattle.evaluation.proofs.route.route_eval.Goals as goal

pub returns-in_err-s : goal.returns-in_err-s
unfolding eval_f
returns-in_err-s c =
    let e : c.allowed.result ≡ None = search rules in
    rw (c.from_residual.ensures, ← c.allowed.ensures, e)

pub returns : goal.returns
unfolding eval_f
returns c =
    let e : c.allowed.result ≡ Some c.in_ok-s.s = search rules in
    rw (← c.allowed.ensures, e) (rw c.start_of-start.ensures)
