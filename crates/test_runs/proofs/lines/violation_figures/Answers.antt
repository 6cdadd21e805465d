-- `lines::violation_figures` meets its contract. Assumes nothing.
use mathlib.Core.Path.{◌≡◌}
use Rattle.visits.specs.declared.visit.ViolationType.TheVariants.{TimeWindowViolated, ClosedLeg}
use Rattle.test_runs.specs.Along.{follows}
use borrow.Author.Rules.{rules}
use Rattle.test_runs.proofs.lines.violation_figures.Goals as goal

pub returns-in-TimeWindowViolated : goal.returns-in-TimeWindowViolated
unfolding follows
returns-in-TimeWindowViolated c =
    let known = c in
    let k = known.in-TimeWindowViolated in
    let e : known.args.kind ≡ TimeWindowViolated k.customer_id k.arrival k.due = search rules in
    rw (e, c.number_and_two.ensures, c.number-end.ensures)

pub returns-in-BreakNotPlaceable : goal.returns-in-BreakNotPlaceable
unfolding follows
returns-in-BreakNotPlaceable c = rw (c.in-BreakNotPlaceable.is, c.number.ensures)

pub returns-in-ClosedLeg : goal.returns-in-ClosedLeg
unfolding follows
returns-in-ClosedLeg c =
    let known = c in
    let e : known.args.kind ≡ ClosedLeg known.in-ClosedLeg.leg = search rules in
    rw (e, c.number-in-ClosedLeg.ensures, c.number-end-in-ClosedLeg.ensures)
