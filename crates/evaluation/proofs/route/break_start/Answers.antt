-- `route::break_start` meets its contract: the calls before the break fail, or are served without it. Assumes nothing.
use mathlib.Core.Path.{◌≡◌, sym, ap₂, ◌∙◌}
use Rattle.std.specs.Prelude.{None, Some}
use Rattle.evaluation.specs.Records.{lent}
use Rattle.evaluation.specs.Way.{way_f}
use Rattle.evaluation.specs.Route.{break_start_at_f}
use Rattle.evaluation.proofs.Driving.{take-fewer}
use borrow.Author.Rules.{rules}
use Rattle.evaluation.proofs.route.break_start.Goals as goal

pub returns-in_err-d : goal.returns-in_err-d
unfolding break_start_at_f
returns-in_err-d c =
    let driven = c in
    let begun = driven in
    let counted = begun in
    let a = counted.args in
    let t = lent a.customers a.distances.now a.times.now a.size in
    let e : driven.way_through.result ≡ None = search rules in
    rw (c.from_residual.ensures, sym (driven.way_through.ensures ∙ ap₂ (way_f t) begun.start.ensures (take-fewer a.k _ a.route.now counted.fewer-n.ensures)), e)

pub returns-in_err-leg : goal.returns-in_err-leg
unfolding break_start_at_f
returns-in_err-leg c =
    let timed = c in
    let called = timed in
    let known = called in
    let driven = known in
    let begun = driven in
    let counted = begun in
    let a = counted.args in
    let t = lent a.customers a.distances.now a.times.now a.size in
    let e : driven.way_through.result ≡ Some known.in_ok-d.d = search rules in
    let f : timed.leg_between.result ≡ None = search rules in
    rw (c.from_residual-in_err-leg.ensures, sym (driven.way_through.ensures ∙ ap₂ (way_f t) begun.start.ensures (take-fewer a.k _ a.route.now counted.fewer-n.ensures)), e)
    (rw (← called.call_at-cid.ensures, ← timed.leg_between.ensures, f))

pub returns : goal.returns
unfolding break_start_at_f
returns c =
    let near = c in
    let timed = near in
    let called = timed in
    let known = called in
    let driven = known in
    let begun = driven in
    let counted = begun in
    let a = counted.args in
    let t = lent a.customers a.distances.now a.times.now a.size in
    let e : driven.way_through.result ≡ Some known.in_ok-d.d = search rules in
    let f : timed.leg_between.result ≡ Some near.in_ok-leg.leg = search rules in
    rw (sym (driven.way_through.ensures ∙ ap₂ (way_f t) begun.start.ensures (take-fewer a.k _ a.route.now counted.fewer-n.ensures)), e)
    (rw (← called.call_at-cid.ensures, ← timed.leg_between.ensures, f) (rw c.break_start_at.ensures))
