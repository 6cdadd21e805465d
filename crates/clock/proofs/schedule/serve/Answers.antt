-- `schedule::serve` meets its contract: the break fails, the window fails, or the call is served. Assumes nothing.
use mathlib.Core.Path.{◌≡◌}
use Rattle.std.specs.Prelude.{None, Some}
use Rattle.clock.specs.Serving.{serve_f}
use borrow.Author.Rules.{rules}
use Rattle.clock.proofs.schedule.serve.Goals as goal

pub returns-in_err-ready : goal.returns-in_err-ready
unfolding serve_f
returns-in_err-ready c =
    let e : c.ready_at.result ≡ None = search rules in
    rw (c.from_residual.ensures, ← c.ready_at.ensures, e)

pub returns-in_err-l : goal.returns-in_err-l
unfolding serve_f
returns-in_err-l c =
    let e : c.ready_at.result ≡ Some c.in_ok-ready.ready = search rules in
    let f : c.enter.result ≡ None = search rules in
    rw (c.from_residual-in_err-l.ensures, ← c.ready_at.ensures, e) (rw (← c.enter.ensures, f))

pub returns : goal.returns
unfolding serve_f
returns c =
    let e : c.ready_at.result ≡ Some c.in_ok-ready.ready = search rules in
    let f : c.enter.result ≡ Some c.in_ok-l.l = search rules in
    rw (← c.ready_at.ensures, e) (rw (← c.enter.ensures, f) (rw c.place_after-place.ensures))
