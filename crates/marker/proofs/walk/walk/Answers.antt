-- `walk::walk` meets its contract. The loop's invariant: the walk through the calls that are left, from here, ends as the whole walk does. Assumes nothing.
use mathlib.Core.Path.{◌≡◌, sym, ap, ap₂, ◌∙◌}
use native.Mathlib.Omega.{arith}
use lib.ListN.{length}
use lib.Ieee.{Float}
use Rattle.whole.proofs.Bits.{fl-zero}
use Rattle.std.specs.Prelude.{None, Some, Result}
use Rattle.models.specs.Records.{rest_of}
use Rattle.clock.specs.declared.schedule.Label.{Label}
use Rattle.clock.specs.declared.schedule.Scheduled.{Scheduled}
use Rattle.marker.specs.declared.verdict.Verdict.{Verdict}
use Rattle.evaluation.specs.Records.{lent}
use Rattle.evaluation.proofs.Reading.{read-record}
use Rattle.marker.specs.Walking.{walk_f}
use Rattle.marker.proofs.Calls.{walk-closed, walk-on, walk-stops, home-closed, walk_end}
use borrow.Author.Rules.{rules}
use Rattle.marker.proofs.walk.walk.Goals as goal

pub returns-in_default : goal.returns-in_default
returns-in_default c =
    let x = c.loop-i in
    let a = c.args in
    let t = lent a.customers a.distances.now a.times.now a.size in
    let from : Float → Label → Result Scheduled Verdict = λ far l. walk_f t (rest_of a.rest) a.run a.place 1 far 0 l a.calls.now in
    let e : c.leg_between.result ≡ None = search rules in
    let stops =
    walk-closed t (rest_of a.rest) a.run a.place a.calls.now x.distance x.prev x.label x.i _
    c.loop-i-test.true c.leg_between.ensures (e) in
    sym stops ∙ (x.invariant ∙ ap₂ from (sym fl-zero) c.start-label.ensures)

pub returns-in_default-serve : goal.returns-in_default-serve
returns-in_default-serve c =
    let x = c.loop-i in
    let a = c.args in
    let t = lent a.customers a.distances.now a.times.now a.size in
    let from : Float → Label → Result Scheduled Verdict = λ far l. walk_f t (rest_of a.rest) a.run a.place 1 far 0 l a.calls.now in
    let index = c.record_index-index.ensures in
    let far : c.leg_between.result ≡ Some c.in-Some.leg = search rules in
    let e : c.serve.result ≡ None = search rules in
    let record_is = read-record a.customers a.distances.now a.times.now a.size _ _ _ c.well_formed.1.1.1.0.1.0.1 index.0 index.1 in
    let stops =
    walk-stops t (rest_of a.rest) a.run a.place a.calls.now x.distance x.prev x.label x.i _
    c.loop-i-test.true c.leg_between.ensures _ (far) _ _ _ record_is c.break_at-here.ensures c.serve.ensures (e) in
    rw c.call_fault.ensures (sym stops ∙ (x.invariant ∙ ap₂ from (sym fl-zero) c.start-label.ensures))

pub loop-i-preserved : goal.loop-i-preserved
loop-i-preserved c =
    let x = c.loop-i in
    let a = c.args in
    let t = lent a.customers a.distances.now a.times.now a.size in
    let index = c.record_index-index.ensures in
    let far : c.leg_between.result ≡ Some c.in-Some.leg = search rules in
    let e : c.serve.result ≡ Some c.in-Some-serve.l = search rules in
    let record_is = read-record a.customers a.distances.now a.times.now a.size _ _ _ c.well_formed.1.1.1.0.1.0.1 index.0 index.1 in
    let turn =
    walk-on t (rest_of a.rest) a.run a.place a.calls.now x.distance x.prev x.label x.i _
    c.loop-i-test.true c.leg_between.ensures _ (far) _ _ _ record_is c.break_at-here.ensures c.serve.ensures in
    sym (turn _ (e)) ∙ x.invariant

pub returns-in_default-leg_between : goal.returns-in_default-leg_between
returns-in_default-leg_between c =
    let x = c.loop-i in
    let a = c.args in
    let t = lent a.customers a.distances.now a.times.now a.size in
    let from : Float → Label → Result Scheduled Verdict = λ far l. walk_f t (rest_of a.rest) a.run a.place 1 far 0 l a.calls.now in
    let e : c.leg_between-2.result ≡ None = search rules in
    let stops =
    home-closed t (rest_of a.rest) a.run a.place a.calls.now x.distance x.prev x.label x.i _
    c.loop-i-test.false c.leg_between-2.ensures (e) in
    let end : length a.calls.now ≡ x.i = omega arith in
    rw end (sym stops ∙ (x.invariant ∙ ap₂ from (sym fl-zero) c.start-label.ensures))

pub returns : goal.returns
returns c =
    let x = c.loop-i in
    let a = c.args in
    let t = lent a.customers a.distances.now a.times.now a.size in
    let from : Float → Label → Result Scheduled Verdict = λ far l. walk_f t (rest_of a.rest) a.run a.place 1 far 0 l a.calls.now in
    let e : c.leg_between-2.result ≡ Some c.in-Some-leg_between.back = search rules in
    let whole =
    walk_end t (rest_of a.rest) a.run a.place a.calls.now x.distance x.prev x.label x.i _
    c.loop-i-test.false c.leg_between-2.ensures _ (e) in
    rw c.home.ensures (sym whole ∙ (x.invariant ∙ ap₂ from (sym fl-zero) c.start-label.ensures))
