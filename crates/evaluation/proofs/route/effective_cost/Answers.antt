-- `route::effective_cost` meets its contract. Assumes nothing.
use mathlib.Core.Path.{◌≡◌}
use Rattle.std.specs.Prelude.{None, Some}
use Rattle.evaluation.specs.Route.{cost_f}
use borrow.Author.Rules.{rules}
use Rattle.evaluation.proofs.route.effective_cost.Goals as goal

pub returns-in-None : goal.returns-in-None
unfolding cost_f
returns-in-None c =
    let e : c.allowed.result ≡ None = search rules in
    rw (← c.allowed.ensures, e) c.infinity.ensures

pub returns-in-Some : goal.returns-in-Some
unfolding cost_f
returns-in-Some c =
    let e : c.allowed.result ≡ Some c.in-Some.s = search rules in
    rw (← c.allowed.ensures, e)
