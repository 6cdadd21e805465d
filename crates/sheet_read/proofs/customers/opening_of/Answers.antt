-- `customers::opening_of` meets its contract. Assumes nothing.
use mathlib.Core.Path.{◌≡◌}
use borrow.Author.Rules.{rules}
use Rattle.whole.specs.Whole.{fl}
use Rattle.std.specs.Prelude.{Some}
use Rattle.sheet_read.proofs.customers.opening_of.Goals as goal

pub returns-in-Some-due : goal.returns-in-Some-due
unfolding fl
returns-in-Some-due c =
    let to = c in
    let from = to in
    let a = from.args in
    let r : a.ready ≡ Some from.in-Some.from = search rules in
    let d : a.due ≡ Some to.in-Some-due.to = search rules in
    rw (r, d)
