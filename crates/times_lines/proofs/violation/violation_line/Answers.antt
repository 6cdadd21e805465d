-- `violation::violation_line` meets its contract. Assumes nothing.
use native.Mathlib.Omega.{arith}
use mathlib.Core.Path.{◌≡◌}
use Rattle.visits.specs.declared.visit.ViolationType.TheVariants.{TimeWindowViolated, BreakNotPlaceable, CapacityExceeded, MaxDistanceExceeded, MaxDurationExceeded, WheelchairsExceeded, ClosedLeg}
use Rattle.times_lines.proofs.Templates.{put_as, shut-is, unbroken-is, seats-is, far-is, long-is, wheelchairs-is, closed_is}
use borrow.Author.Rules.{rules}
use Rattle.times_lines.proofs.violation.violation_line.Goals as goal

pub returns-in-TimeWindowViolated : goal.returns-in-TimeWindowViolated
returns-in-TimeWindowViolated c =
    let f = c in
    let second = f in
    let first = second in
    let known = first in
    let a = known.args in
    let e : a.violation.kind ≡ TimeWindowViolated known.in-TimeWindowViolated.customer_id known.in-TimeWindowViolated.arrival known.in-TimeWindowViolated.due = search rules in
    let put = rw (first.whole_part.ensures, second.whole_part-in-TimeWindowViolated.ensures) at f.filled.ensures.text in
    record { text = rw e (put_as (shut-is a.n _ _ _) put); short = omega arith }

pub returns-in-BreakNotPlaceable : goal.returns-in-BreakNotPlaceable
returns-in-BreakNotPlaceable c =
    let f = c in
    let past-a = f in
    let a = past-a.args in
    let e : a.violation.kind ≡ BreakNotPlaceable = search rules in
    let put = f.filled-in-BreakNotPlaceable.ensures.text in
    record { text = rw e (put_as (unbroken-is a.n) put); short = omega arith }

pub returns-in-CapacityExceeded : goal.returns-in-CapacityExceeded
returns-in-CapacityExceeded c =
    let f = c in
    let known = f in
    let a = known.args in
    let e : a.violation.kind ≡ CapacityExceeded known.in-CapacityExceeded.load known.in-CapacityExceeded.capacity = search rules in
    let put = f.filled-in-CapacityExceeded.ensures.text in
    record { text = rw e (put_as (seats-is a.n _ _) put); short = omega arith }

pub returns-in-MaxDistanceExceeded : goal.returns-in-MaxDistanceExceeded
returns-in-MaxDistanceExceeded c =
    let f = c in
    let second = f in
    let first = second in
    let known = first in
    let a = known.args in
    let e : a.violation.kind ≡ MaxDistanceExceeded known.in-MaxDistanceExceeded.distance known.in-MaxDistanceExceeded.max_distance = search rules in
    let put = rw (first.whole_part-in-MaxDistanceExceeded.ensures, second.whole_part-in-MaxDistanceExceeded-2.ensures) at f.filled-in-MaxDistanceExceeded.ensures.text in
    record { text = rw e (put_as (far-is a.n _ _) put); short = omega arith }

pub returns-in-MaxDurationExceeded : goal.returns-in-MaxDurationExceeded
returns-in-MaxDurationExceeded c =
    let f = c in
    let second = f in
    let first = second in
    let known = first in
    let a = known.args in
    let e : a.violation.kind ≡ MaxDurationExceeded known.in-MaxDurationExceeded.duration known.in-MaxDurationExceeded.max_duration = search rules in
    let put = rw (first.whole_part-in-MaxDurationExceeded.ensures, second.whole_part-in-MaxDurationExceeded-2.ensures) at f.filled-in-MaxDurationExceeded.ensures.text in
    record { text = rw e (put_as (long-is a.n _ _) put); short = omega arith }

pub returns-in-WheelchairsExceeded : goal.returns-in-WheelchairsExceeded
returns-in-WheelchairsExceeded c =
    let f = c in
    let known = f in
    let a = known.args in
    let e : a.violation.kind ≡ WheelchairsExceeded known.in-WheelchairsExceeded.load known.in-WheelchairsExceeded.capacity = search rules in
    let put = f.filled-in-WheelchairsExceeded.ensures.text in
    record { text = rw e (put_as (wheelchairs-is a.n _ _) put); short = omega arith }

pub returns-in-ClosedLeg : goal.returns-in-ClosedLeg
returns-in-ClosedLeg c =
    let f = c in
    let known = f in
    let a = known.args in
    let e : a.violation.kind ≡ ClosedLeg known.in-ClosedLeg.leg = search rules in
    let put = f.filled-in-ClosedLeg.ensures.text in
    record { text = rw e (put_as (closed_is a.n _) put); short = omega arith }
