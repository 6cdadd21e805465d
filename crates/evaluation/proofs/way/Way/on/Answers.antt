-- `Way::on` meets its contract. Assumes nothing.
use mathlib.Core.Path.{◌≡◌}
use Rattle.std.specs.Prelude.{None, Some}
use Rattle.evaluation.specs.Way.{way_on_f}
use borrow.Author.Rules.{rules}
use Rattle.evaluation.proofs.way.Way.on.Goals as goal

pub returns-in_err-l : goal.returns-in_err-l
unfolding way_on_f
returns-in_err-l c =
    let e : c.serve.result ≡ None = search rules in
    rw (c.from_residual.ensures, ← c.serve.ensures, e)

pub returns : goal.returns
unfolding way_on_f
returns c =
    let e : c.serve.result ≡ Some c.in_ok-l.l = search rules in
    rw (← c.serve.ensures, e)
