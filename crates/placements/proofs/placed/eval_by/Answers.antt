-- `placed::eval_by` meets its contract. Assumes nothing.
use mathlib.Core.Path.{◌≡◌}
use Rattle.std.specs.Prelude.{None, Some}
use Rattle.placements.specs.Placed.{eval_by}
use borrow.Author.Rules.{rules}
use Rattle.placements.proofs.placed.eval_by.Goals as goal

pub returns-in_err-s : goal.returns-in_err-s
unfolding eval_by
returns-in_err-s c =
    let e : c.totals_by.result ≡ None = search rules in
    rw (c.from_residual.ensures, ← c.totals_by.ensures, e)

pub returns : goal.returns
unfolding eval_by
returns c =
    let e : c.totals_by.result ≡ Some c.in_ok-s.s = search rules in
    rw (← c.totals_by.ensures, e) (rw c.start_of-start.ensures)
