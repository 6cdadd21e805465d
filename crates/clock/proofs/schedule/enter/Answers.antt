-- `schedule::enter` meets its contract: without a window, late without a penalty, or entered. Assumes nothing.
use mathlib.Core.Path.{◌≡◌}
use Rattle.std.specs.Prelude.{None, Some}
use Rattle.clock.specs.Serving.{enter_f}
use borrow.Author.Rules.{rules}
use Rattle.clock.proofs.schedule.enter.Goals as goal

pub returns-in_err-l-in-Some : goal.returns-in_err-l-in-Some
unfolding enter_f
returns-in_err-l-in-Some c =
    let e : c.args.customer.time_window ≡ Some c.in-Some.window = search rules in
    let f : c.charge.result ≡ None = search rules in
    rw (c.from_residual.ensures, e, ← c.charge.ensures, f)

pub returns-in-None : goal.returns-in-None
unfolding enter_f
returns-in-None c = let e : c.args.customer.time_window ≡ None = search rules in rw e

pub returns-in_ok-l-in-Some : goal.returns-in_ok-l-in-Some
unfolding enter_f
returns-in_ok-l-in-Some c =
    let e : c.args.customer.time_window ≡ Some c.in-Some.window = search rules in
    let f : c.charge.result ≡ Some c.in_ok-l-in-Some.l = search rules in
    rw (e, ← c.charge.ensures, f) (rw (← c.waiting_time-waiting.ensures))
