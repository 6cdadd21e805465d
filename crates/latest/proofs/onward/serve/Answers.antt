-- `onward::serve` meets its contract. Assumes nothing.
use Rattle.latest.proofs.Ways.{serve-broken, serve-whole}
use Rattle.latest.specs.Floats.{floats, hours_in, day_in, times_in}
use lib.Ieee.{Float}
use mathlib.Core.Path.{ap, ap₂, ◌∙◌}
use Rattle.latest.proofs.onward.serve.Goals as goal

pub returns-then-day : goal.returns-then-day
returns-then-day c =
    let tested = c in
    let a = tested.args in
    ap₂ (λ (x y : Float). record { before = x; after = y }) tested.leave-before.ensures c.taken-after.ensures
    ∙ serve-broken floats (day_in a.day) (hours_in a.hours) a.travel (times_in a.times) tested.if-day.true

pub returns : goal.returns
returns c =
    let a = c.args in
    ap (λ (x : Float). record { before = x; after = a.times.after }) c.leave-before.ensures
    ∙ serve-whole floats (day_in a.day) (hours_in a.hours) a.travel (times_in a.times) c.if-day.false
