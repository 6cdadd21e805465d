-- `schedule::charge` meets its contract, by whether it is late and has a penalty. Assumes nothing.
use mathlib.Core.Path.{◌≡◌, sym, ◌∙◌}
use Rattle.std.specs.Prelude.{None, Some}
use Rattle.clock.specs.Serving.{charge_f}
use borrow.Author.Rules.{rules}
use Rattle.clock.proofs.schedule.charge.Goals as goal

pub returns-then-not-is_violated : goal.returns-then-not-is_violated
unfolding charge_f
returns-then-not-is_violated c = rw (sym c.is_violated.ensures ∙ c.if-not-is_violated.true)

pub returns-in-None : goal.returns-in-None
unfolding charge_f
returns-in-None c =
    let asked = c in
    let late = sym asked.is_violated.ensures ∙ c.if-not-is_violated.false in
    let e : asked.args.penalty ≡ None = search rules in
    rw (late, e)

pub returns-in-Some : goal.returns-in-Some
unfolding charge_f
returns-in-Some c =
    let known = c in
    let tested = known in
    let asked = tested in
    let late = sym asked.is_violated.ensures ∙ tested.if-not-is_violated.false in
    let e : asked.args.penalty ≡ Some known.in-Some.p = search rules in
    rw (late, e) (rw (← c.lateness-late.ensures))
