-- `route::start_of` meets its contract: no break, no place, or the break at that call. Assumes nothing.
use mathlib.Core.Path.{◌≡◌, ◌∙◌}
use Rattle.std.specs.Prelude.{None, Some}
use Rattle.evaluation.specs.Route.{start_f}
use Rattle.evaluation.proofs.Driving.{start-before}
use borrow.Author.Rules.{rules}
use Rattle.evaluation.proofs.route.start_of.Goals as goal

pub returns-in_err-b : goal.returns-in_err-b
unfolding start_f
returns-in_err-b c = let e : c.args.rest ≡ None = search rules in rw (c.from_residual.ensures, e)

pub returns-then-place-eq0 : goal.returns-then-place-eq0
unfolding start_f
returns-then-place-eq0 c =
    let known = c in
    let e : known.args.rest ≡ Some known.in_ok-b.b = search rules in
    rw (e, c.if-place-eq0.true)

pub returns : goal.returns
returns c =
    let known = c in
    let a = known.args in
    let e : a.rest ≡ Some known.in_ok-b.b = search rules in
    rw e (c.break_start.ensures ∙ start-before _ _ a.place a.route.now c.if-place-eq0.false)
