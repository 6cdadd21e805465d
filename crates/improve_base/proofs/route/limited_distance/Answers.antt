-- `route::limited_distance` meets its contract. Assumes nothing.
use mathlib.Core.Path.{◌≡◌, sym}
use Rattle.whole.proofs.Bits.{fl-zero}
use Rattle.std.specs.Prelude.{None, Some}
use Rattle.improve_base.specs.Route.{far_f}
use borrow.Author.Rules.{rules}
use Rattle.improve_base.proofs.route.limited_distance.Goals as goal

pub returns-in-None : goal.returns-in-None
unfolding far_f
returns-in-None c =
    let e : c.args.limits.max_distance ≡ None = search rules in
    rw e (sym fl-zero)

pub returns-in-Some : goal.returns-in-Some
unfolding far_f
returns-in-Some c =
    let told = c in
    let e : told.args.limits.max_distance ≡ Some told.in-Some.field-0 = search rules in
    rw e c.route_distance.ensures
