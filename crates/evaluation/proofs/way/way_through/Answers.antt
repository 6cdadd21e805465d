-- `way::way_through` meets its contract. The loop's invariant: what is left of the way, from here, ends as the whole way does. Assumes nothing.
use mathlib.Core.Path.{◌≡◌, sym, ap, ◌∙◌}
use Rattle.std.specs.Prelude.{None, Some}
use Rattle.evaluation.specs.Records.{lent}
use Rattle.evaluation.specs.Tables.{record_f, leg_f}
use Rattle.evaluation.proofs.Reading.{read-record}
use Rattle.evaluation.proofs.Driving.{through-closed, through-turn, through-fails, through-end}
use borrow.Author.Rules.{rules}
use Rattle.evaluation.proofs.way.way_through.Goals as goal

pub returns-in_err-leg : goal.returns-in_err-leg
returns-in_err-leg c =
    let driven = c in
    let in-loop = driven in
    let x = in-loop.loop-cid in
    let a = in-loop.args in
    let t = lent a.customers a.distances.now a.times.now a.size in
    let e : driven.leg_between.result ≡ None = search rules in
    c.from_residual.ensures ∙ (sym (through-closed (leg_f t) (record_f t) a.calls.now x.way x.cid-index _ in-loop.loop-cid-test.true driven.leg_between.ensures (e)) ∙ x.invariant)

pub returns-in_err-w : goal.returns-in_err-w
returns-in_err-w c =
    let drove = c in
    let indexed = drove in
    let known = indexed in
    let driven = known in
    let in-loop = driven in
    let x = in-loop.loop-cid in
    let S = in-loop in
    let a = S.args in
    let t = lent a.customers a.distances.now a.times.now a.size in
    let index = indexed.record_index-index.ensures in
    let record_is = read-record a.customers a.distances.now a.times.now a.size _ _ _ S.well_formed.1.1.0.1.0.1 index.0 index.1 in
    let far : driven.leg_between.result ≡ Some known.in_ok-leg.leg = search rules in
    let e : drove.on.result ≡ None = search rules in
    let fails =
    through-fails (leg_f t) (record_f t) a.calls.now x.way x.cid-index _
    in-loop.loop-cid-test.true driven.leg_between.ensures _ (far) _ _ record_is drove.on.ensures (e) in
    c.from_residual-in_err-w.ensures ∙ (sym fails ∙ x.invariant)

pub loop-cid-preserved : goal.loop-cid-preserved
loop-cid-preserved c =
    let drove = c in
    let indexed = drove in
    let known = indexed in
    let driven = known in
    let in-loop = driven in
    let x = in-loop.loop-cid in
    let S = in-loop in
    let a = S.args in
    let t = lent a.customers a.distances.now a.times.now a.size in
    let index = indexed.record_index-index.ensures in
    let record_is = read-record a.customers a.distances.now a.times.now a.size _ _ _ S.well_formed.1.1.0.1.0.1 index.0 index.1 in
    let far : driven.leg_between.result ≡ Some known.in_ok-leg.leg = search rules in
    let e : drove.on.result ≡ Some c.in_ok-w.w = search rules in
    let turn =
    through-turn (leg_f t) (record_f t) a.calls.now x.way x.cid-index _
    in-loop.loop-cid-test.true driven.leg_between.ensures _ (far) _ _ record_is drove.on.ensures _ (e) in
    sym turn ∙ x.invariant

pub returns : goal.returns
returns c =
    let a = c.args in
    let x = c.loop-cid in
    let t = lent a.customers a.distances.now a.times.now a.size in
    sym (through-end (leg_f t) (record_f t) a.calls.now x.way x.cid-index c.loop-cid-test.false) ∙ x.invariant
