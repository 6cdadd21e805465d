-- `breaks::break_by` meets its contract. Assumes nothing.
use mathlib.Core.Path.{◌≡◌}
use Rattle.std.specs.Prelude.{None, Some}
use Rattle.sheet_plan.specs.Breaks.{break_by}
use borrow.Author.Rules.{rules}
use Rattle.sheet_plan.proofs.breaks.break_by.Goals as goal

pub returns-in_default : goal.returns-in_default
unfolding break_by
returns-in_default c =
    let t = c.eval_by in
    let e : t.result ≡ None = search rules in
    rw (← t.ensures, e)

pub returns : goal.returns
unfolding break_by
returns c =
    let t = c.eval_by in
    let e : t.result ≡ Some c.in-Some.e = search rules in
    rw (← t.ensures, e)
