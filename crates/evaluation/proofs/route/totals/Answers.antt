-- `route::totals` meets its contract. Assumes nothing.
use mathlib.Core.Path.{◌≡◌}
use Rattle.std.specs.Prelude.{None, Some}
use Rattle.evaluation.specs.Route.{totals_f}
use borrow.Author.Rules.{rules}
use Rattle.evaluation.proofs.route.totals.Goals as goal

pub returns-in-None : goal.returns-in-None
unfolding totals_f
returns-in-None c =
    let told = c in
    let e : told.args.rest ≡ None = search rules in
    rw (e, ← c.start.ensures) c.plain_from.ensures

pub returns-in-Some : goal.returns-in-Some
unfolding totals_f
returns-in-Some c =
    let known = c in
    let e : known.args.rest ≡ Some known.in-Some.b = search rules in
    rw e c.schedule.ensures
