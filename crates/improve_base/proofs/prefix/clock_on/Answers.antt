-- `prefix::clock_on` meets its contract. Assumes nothing.
use mathlib.Core.Path.{sym, ◌∙◌}
use Rattle.cut_stops.specs.Stops.{numbers, listed}
use Rattle.improve_base.specs.Prefix.{timed_of}
use Rattle.improve_base.proofs.Onward.{ticked-on, ticked-out}
use Rattle.improve_base.proofs.prefix.clock_on.Goals as goal

pub returns-then-alive : goal.returns-then-alive
returns-then-alive c =
    let asked = c in
    let ticked = asked in
    let a = ticked.args in
    let t = listed (numbers a.codes.now a.figures.now) a.distances.now a.times.now a.size in
    ticked-on t (timed_of a.timed) a.cid _ ticked.tick_on-new.ensures (sym asked.alive.ensures ∙ c.if-alive.true)

pub returns-else-alive : goal.returns-else-alive
returns-else-alive c =
    let asked = c in
    let ticked = asked in
    let a = ticked.args in
    let t = listed (numbers a.codes.now a.figures.now) a.distances.now a.times.now a.size in
    ticked-out t (timed_of a.timed) a.cid _ ticked.tick_on-new.ensures (sym asked.alive.ensures ∙ c.if-alive.false)
