-- `backward::back` meets its contract. Assumes nothing.
use Rattle.latest.proofs.Ways.{back-broken, back_whole}
use Rattle.latest.specs.Floats.{floats, hours_in, day_in, times_in}
use Rattle.latest.specs.Times.{later, entered, paused}
use lib.Ieee.{Float}
use mathlib.Core.Path.{ap, ap₂, ◌∙◌}
use Rattle.latest.proofs.backward.back.Goals as goal

pub returns-then-day : goal.returns-then-day
returns-then-day c =
    let paused-here = c in
    let after-here = paused-here in
    let tested = after-here in
    let a = tested.args in
    let plain = tested.entered-plain.ensures ∙ ap (entered floats (hours_in a.hours)) tested.less.ensures in
    let after = after-here.entered-after.ensures ∙ ap (entered floats (hours_in a.hours)) after-here.less-then-day.ensures in
    let broken = paused-here.paused-broken.ensures ∙ ap (paused floats (day_in a.day)) after in
    ap₂ (λ (x y : Float). record { before = x; after = y }) (c.larger.ensures ∙ ap₂ (later floats) plain broken) after
    ∙ back-broken floats (day_in a.day) (hours_in a.hours) a.travel (times_in a.bounds) tested.if-day.true

pub returns : goal.returns
returns c =
    let a = c.args in
    let plain = c.entered-plain.ensures ∙ ap (entered floats (hours_in a.hours)) c.less.ensures in
    ap (λ (x : Float). record { before = x; after = a.bounds.after }) plain
    ∙ back_whole floats (day_in a.day) (hours_in a.hours) a.travel (times_in a.bounds) c.if-day.false
