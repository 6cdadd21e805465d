-- `customers::penalty_of` meets its contract. Assumes nothing.
use mathlib.Core.Path.{◌≡◌}
use borrow.Author.Rules.{rules}
use Rattle.whole.specs.Whole.{fl}
use Rattle.std.specs.Prelude.{Some}
use Rattle.sheet_read.proofs.customers.penalty_of.Goals as goal

pub returns-in-Some : goal.returns-in-Some
unfolding fl
returns-in-Some c =
    let e : c.args.v ≡ Some c.in-Some.n = search rules in
    rw e
