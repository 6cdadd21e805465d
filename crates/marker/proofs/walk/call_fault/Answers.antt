-- `walk::call_fault` meets its contract. Assumes nothing.
use mathlib.Core.Path.{◌≡◌, ap}
use lib.Ieee.{Float}
use Rattle.definitions.specs.Sheet.{BreakOf}
use Rattle.std.specs.Prelude.{None, Some}
use Rattle.clock.specs.Serving.{break_start_f, ready_f}
use Rattle.marker.specs.declared.verdict.Verdict.TheVariants.{BreakTooLate}
use Rattle.marker.specs.Walking.{call_fault_f}
use borrow.Author.Rules.{rules}
use Rattle.marker.proofs.walk.call_fault.Goals as goal

pub returns-in-None : goal.returns-in-None
unfolding call_fault_f ready_f
returns-in-None c =
    let a = c.args in
    let e : c.ready_at.result ≡ None = search rules in
    rw (← c.ready_at.ensures, e, c.break_start_at.ensures)
    (ap (λ (b : BreakOf Float). BreakTooLate a.run a.k a.cid (break_start_f b a.arrival) b.latest) c.break_or-b.ensures)

pub returns-in-Some : goal.returns-in-Some
unfolding call_fault_f ready_f
returns-in-Some c =
    let e : c.ready_at.result ≡ Some c.in-Some.readiness = search rules in
    rw (← c.ready_at.ensures, e, c.due_or_zero.ensures)
