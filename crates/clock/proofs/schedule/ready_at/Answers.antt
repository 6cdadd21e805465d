-- `schedule::ready_at` meets its contract, by whether the break is here and starts by latest. Assumes nothing.
use mathlib.Core.Path.{◌≡◌}
use Rattle.std.specs.Prelude.{None, Some}
use Rattle.clock.specs.Serving.{ready_f}
use borrow.Author.Rules.{rules}
use Rattle.clock.proofs.schedule.ready_at.Goals as goal

pub returns-in-None : goal.returns-in-None
unfolding ready_f
returns-in-None c = let e : c.args.rest ≡ None = search rules in rw e

pub returns-then-start-b : goal.returns-then-start-b
unfolding ready_f
returns-then-start-b c =
    let started = c in
    let known = started in
    let e : known.args.rest ≡ Some known.in-Some.b = search rules in
    rw (e, ← started.break_start_at-start.ensures, c.if-start-b.true)

pub returns-else-start-b : goal.returns-else-start-b
unfolding ready_f
returns-else-start-b c =
    let started = c in
    let known = started in
    let e : known.args.rest ≡ Some known.in-Some.b = search rules in
    rw (e, ← started.break_start_at-start.ensures, c.if-start-b.false)
