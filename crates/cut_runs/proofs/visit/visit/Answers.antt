-- `visit::visit` meets its contract. Assumes nothing.
use mathlib.Core.Path.{◌≡◌}
use Rattle.std.specs.Prelude.{None, Some}
use Rattle.cut_runs.specs.Runs.{visit_f}
use borrow.Author.Rules.{rules}
use Rattle.cut_runs.proofs.visit.visit.Goals as goal

pub returns-in_err-v : goal.returns-in_err-v
unfolding visit_f
returns-in_err-v c = let e : c.enter.result ≡ None = search rules in rw (c.from_residual.ensures, ← c.enter.ensures, e)

pub returns : goal.returns
unfolding visit_f
returns c =
    let e : c.enter.result ≡ Some c.in_ok-v.v = search rules in
    rw (← c.enter.ensures, e)
