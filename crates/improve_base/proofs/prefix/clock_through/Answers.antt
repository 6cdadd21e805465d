-- `prefix::clock_through` meets its contract. Assumes nothing.
use mathlib.Core.Path.{sym, ◌∙◌}
use native.Mathlib.Omega.{arith}
use Rattle.cut_stops.specs.Stops.{numbers, listed}
use Rattle.improve_base.specs.declared.prefix.Prefix.TheVariants.{Clock}
use Rattle.improve_base.specs.Prefix.{timed_of, prefix_of}
use Rattle.improve_base.proofs.Onward.{ticked-on, ticked-index, ticked-out, on-turn, on-fails, on-end}
use Rattle.improve_base.proofs.prefix.clock_through.Goals as goal

pub returns-then-not-alive : goal.returns-then-not-alive
returns-then-not-alive c =
    let a = c.args in
    let t = listed (numbers a.codes.now a.figures.now) a.distances.now a.times.now a.size in
    let x = c.loop-cid in
    let dead = sym c.alive.ensures ∙ c.if-not-alive.true in
    let out = ticked-out t (timed_of x.timed) _ _ c.tick_on-timed.ensures dead in
    sym (on-fails t a.calls.now (prefix_of (Clock x.timed)) x.cid-index c.loop-cid-test.true out) ∙ x.invariant.1

pub loop-cid-preserved : goal.loop-cid-preserved
loop-cid-preserved c =
    let a = c.args in
    let t = listed (numbers a.codes.now a.figures.now) a.distances.now a.times.now a.size in
    let x = c.loop-cid in
    let new = c.tick_on-timed.ensures in
    let alive = sym c.alive.ensures ∙ c.if-not-alive.false in
    let on = ticked-on t (timed_of x.timed) _ _ new alive in
    let next = ticked-index t (timed_of x.timed) _ _ new in
    let turn = on-turn t a.calls.now (prefix_of (Clock x.timed)) x.cid-index _ c.loop-cid-test.true on in
    (omega (arith, next, x.invariant.0), sym turn ∙ x.invariant.1)

pub returns : goal.returns
returns c =
    let a = c.args in
    let t = listed (numbers a.codes.now a.figures.now) a.distances.now a.times.now a.size in
    let x = c.loop-cid in
    sym (on-end t a.calls.now (prefix_of (Clock x.timed)) x.cid-index c.loop-cid-test.false) ∙ x.invariant.1
