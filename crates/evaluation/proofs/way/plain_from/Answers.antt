-- `way::plain_from` meets its contract. Assumes nothing.
use mathlib.Core.Path.{◌≡◌}
use Rattle.std.specs.Prelude.{None, Some}
use Rattle.evaluation.specs.Way.{plain_f}
use borrow.Author.Rules.{rules}
use Rattle.evaluation.proofs.way.plain_from.Goals as goal

pub returns-in_err-d : goal.returns-in_err-d
unfolding plain_f
returns-in_err-d c =
    let e : c.way_through.result ≡ None = search rules in
    rw (c.from_residual.ensures, ← c.way_through.ensures, e)

pub returns-in_err-back : goal.returns-in_err-back
unfolding plain_f
returns-in_err-back c =
    let driven = c in
    let known = driven in
    let went = known in
    let e : went.way_through.result ≡ Some known.in_ok-d.d = search rules in
    let f : driven.leg_between.result ≡ None = search rules in
    rw (c.from_residual-in_err-back.ensures, ← went.way_through.ensures, e, ← driven.leg_between.ensures, f)

pub returns : goal.returns
unfolding plain_f
returns c =
    let homeward = c in
    let driven = homeward in
    let known = driven in
    let went = known in
    let e : went.way_through.result ≡ Some known.in_ok-d.d = search rules in
    let f : driven.leg_between.result ≡ Some homeward.in_ok-back.back = search rules in
    rw (← went.way_through.ensures, e, ← driven.leg_between.ensures, f) (rw c.home.ensures)
