-- `schedule::clock_from` meets its contract. The loop's invariant: what is left of the run, from the clock and the distance so far, ends as the whole run does. Assumes nothing.
use mathlib.Core.Path.{◌≡◌, sym, ap, ◌∙◌}
use native.Mathlib.Omega.{arith}
use Rattle.std.specs.Prelude.{None, Some}
use Rattle.clock.specs.Records.{ClockF, clock_of}
use Rattle.clock.specs.Clock.{push_f}
use Rattle.evaluation.specs.Records.{lent}
use Rattle.evaluation.proofs.Reading.{read-record}
use Rattle.evaluation.proofs.Growing.{end-closed, end-turn, end-last, end-gone}
use borrow.Author.Rules.{rules}
use Rattle.evaluation.proofs.schedule.clock_from.Goals as goal

pub returns-in_err-leg : goal.returns-in_err-leg
returns-in_err-leg c =
    let driven = c in
    let in-loop = driven in
    let x = in-loop.loop-cid in
    let begun = in-loop in
    let a = begun.args in
    let t = lent a.customers a.distances.now a.times.now a.size in
    let e : driven.leg_between.result ≡ None = search rules in
    c.from_residual.ensures ∙ (sym (end-closed t a.calls.now (clock_of x.clock) x.distance x.cid-index _ in-loop.loop-cid-test.true driven.leg_between.ensures (e)) ∙ x.invariant.1)

pub returns-then-not-alive : goal.returns-then-not-alive
returns-then-not-alive c =
    let pushed = c in
    let indexed = pushed in
    let known = indexed in
    let driven = known in
    let in-loop = driven in
    let x = in-loop.loop-cid in
    let begun = in-loop in
    let S = begun in
    let a = S.args in
    let t = lent a.customers a.distances.now a.times.now a.size in
    let index = indexed.record_index-index.ensures in
    let record_is = read-record a.customers a.distances.now a.times.now a.size _ _ _ S.well_formed.1.1.0.1.0.1 index.0 index.1 in
    let far : driven.leg_between.result ≡ Some known.in_ok-leg.leg = search rules in
    let turn =
    end-turn t a.calls.now (clock_of x.clock) x.distance x.cid-index _
    in-loop.loop-cid-test.true driven.leg_between.ensures _ (far) _ _ record_is pushed.push-clock.ensures in
    let gone = end-gone t _ _ _ (sym c.alive.ensures ∙ c.if-not-alive.true) in
    sym (sym x.invariant.1 ∙ (turn ∙ gone))

pub loop-cid-preserved : goal.loop-cid-preserved
unfolding push_f
loop-cid-preserved c =
    let pushed = c in
    let indexed = pushed in
    let known = indexed in
    let driven = known in
    let in-loop = driven in
    let x = in-loop.loop-cid in
    let begun = in-loop in
    let S = begun in
    let a = S.args in
    let t = lent a.customers a.distances.now a.times.now a.size in
    let index = indexed.record_index-index.ensures in
    let record_is = read-record a.customers a.distances.now a.times.now a.size _ _ _ S.well_formed.1.1.0.1.0.1 index.0 index.1 in
    let far : driven.leg_between.result ≡ Some known.in_ok-leg.leg = search rules in
    let turn =
    end-turn t a.calls.now (clock_of x.clock) x.distance x.cid-index _
    in-loop.loop-cid-test.true driven.leg_between.ensures _ (far) _ _ record_is pushed.push-clock.ensures in
    (ap (λ (y : ClockF). y.index) pushed.push-clock.ensures ∙ omega (arith, x.invariant.0), sym turn ∙ x.invariant.1)

pub returns-in_err-back : goal.returns-in_err-back
returns-in_err-back c =
    let driven = c in
    let ended = driven in
    let x = ended.loop-cid in
    let begun = ended in
    let a = begun.args in
    let t = lent a.customers a.distances.now a.times.now a.size in
    let last = end-last t a.calls.now (clock_of x.clock) x.distance x.cid-index ended.loop-cid-test.false in
    let e : driven.leg_between-2.result ≡ None = search rules in
    c.from_residual-in_err-back.ensures ∙ (rw (← driven.leg_between-2.ensures, e) at (sym last ∙ x.invariant.1))

pub returns : goal.returns
returns c =
    let homeward = c in
    let driven = homeward in
    let ended = driven in
    let x = ended.loop-cid in
    let begun = ended in
    let a = begun.args in
    let t = lent a.customers a.distances.now a.times.now a.size in
    let last = end-last t a.calls.now (clock_of x.clock) x.distance x.cid-index ended.loop-cid-test.false in
    let e : driven.leg_between-2.result ≡ Some homeward.in_ok-back.back = search rules in
    c.finish.ensures ∙ (rw (← driven.leg_between-2.ensures, e) at (sym last ∙ x.invariant.1))
