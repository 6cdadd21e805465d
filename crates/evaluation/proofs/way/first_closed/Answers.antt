-- `way::first_closed` meets its contract. The loop's invariant: the first closed leg from here on is that of the run. Assumes nothing.
use mathlib.Core.Path.{◌≡◌, sym, ap, ◌∙◌}
use Rattle.std.specs.Prelude.{Option, None}
use Prim.Native.Nat.{ℕ}
use native.Mathlib.Omega.{arith}
use lib.ListN.{length}
use Rattle.basics.specs.Options.{value_or}
use Rattle.distance.specs.Lookup.{drive_f}
use Rattle.evaluation.proofs.Driving.{closed-here, open-here, closed-home, open-home}
use Rattle.evaluation.proofs.way.first_closed.Goals as goal

pub returns-in_default : goal.returns-in_default
returns-in_default c =
    let driven = c in
    let in-loop = driven in
    let x = in-loop.loop-i in
    let a = in-loop.args in
    let leg = drive_f a.distances.now a.times.now a.size in
    let e : driven.leg_between.result ≡ None = c.in_default.is in
    ap (λ (o : Option ℕ). value_or 0 o)
    (sym (closed-here leg a.route.now x.prev x.i _ in-loop.loop-i-test.true driven.leg_between.ensures (e)) ∙ x.invariant)

pub loop-i-preserved : goal.loop-i-preserved
loop-i-preserved c =
    let driven = c in
    let in-loop = driven in
    let x = in-loop.loop-i in
    let a = in-loop.args in
    let leg = drive_f a.distances.now a.times.now a.size in
    let e = c.in-Some.is in
    sym (open-here leg a.route.now x.prev x.i _ in-loop.loop-i-test.true driven.leg_between.ensures _ (e)) ∙ x.invariant

pub returns-in-Some-leg_between : goal.returns-in-Some-leg_between
returns-in-Some-leg_between c =
    let driven = c in
    let ended = driven in
    let x = ended.loop-i in
    let a = ended.args in
    let leg = drive_f a.distances.now a.times.now a.size in
    let e = c.in-Some-leg_between.is in
    ap (λ (o : Option ℕ). value_or 0 o) (sym (open-home leg a.route.now x.prev x.i _ ended.loop-i-test.false driven.leg_between-2.ensures _ (e)) ∙ x.invariant)

pub returns-in-None : goal.returns-in-None
returns-in-None c =
    let driven = c in
    let ended = driven in
    let x = ended.loop-i in
    let a = ended.args in
    let leg = drive_f a.distances.now a.times.now a.size in
    let e : driven.leg_between-2.result ≡ None = c.in-None.is in
    let end : length a.route.now ≡ x.i = omega arith in
    rw end (ap (λ (o : Option ℕ). value_or 0 o) (sym (closed-home leg a.route.now x.prev x.i _ ended.loop-i-test.false driven.leg_between-2.ensures (e)) ∙ x.invariant))
