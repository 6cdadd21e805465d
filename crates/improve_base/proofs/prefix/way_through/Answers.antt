-- `prefix::way_through` meets its contract. Assumes nothing.
use mathlib.Core.Path.{◌≡◌, sym, ap, ◌∙◌}
use Rattle.std.specs.Prelude.{None, Some}
use Rattle.cut_stops.specs.Stops.{numbers, listed}
use Rattle.improve_base.specs.Prefix.{plain, reached_f}
use Rattle.improve_base.proofs.Onward.{driven-on, on-turn, on-fails, on-end}
use Rattle.improve_base.proofs.prefix.way_through.Goals as goal

pub returns-in_default : goal.returns-in_default
returns-in_default c =
    let a = c.args in
    let t = listed (numbers a.codes.now a.figures.now) a.distances.now a.times.now a.size in
    let x = c.loop-cid in
    let e : c.drive_on.result ≡ None = c.in_default.is in
    let on = sym (ap (λ o. reached_f o) e) ∙ driven-on t x.way _ _ c.drive_on.ensures in
    sym (on-fails t a.calls.now (plain x.way) x.cid-index c.loop-cid-test.true on) ∙ x.invariant

pub loop-cid-preserved : goal.loop-cid-preserved
loop-cid-preserved c =
    let a = c.args in
    let t = listed (numbers a.codes.now a.figures.now) a.distances.now a.times.now a.size in
    let x = c.loop-cid in
    let e : c.drive_on.result ≡ Some c.in-Some.w = c.in-Some.is in
    let on = sym (ap (λ o. reached_f o) e) ∙ driven-on t x.way _ _ c.drive_on.ensures in
    sym (on-turn t a.calls.now (plain x.way) x.cid-index _ c.loop-cid-test.true on) ∙ x.invariant

pub returns : goal.returns
returns c =
    let a = c.args in
    let t = listed (numbers a.codes.now a.figures.now) a.distances.now a.times.now a.size in
    let x = c.loop-cid in
    sym (on-end t a.calls.now (plain x.way) x.cid-index c.loop-cid-test.false) ∙ x.invariant
