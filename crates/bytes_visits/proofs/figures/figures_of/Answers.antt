-- `figures::figures_of` meets its contract. Assumes nothing.
use mathlib.Core.Path.{◌≡◌}
use Rattle.whole.specs.Whole.{fl}
use Rattle.whole.proofs.Bits.{fl-zero}
use Rattle.visits.specs.declared.visit.ViolationType.TheVariants.{BreakNotPlaceable, CapacityExceeded, MaxDistanceExceeded, MaxDurationExceeded, WheelchairsExceeded, ClosedLeg}
use borrow.Author.Rules.{rules}
use Rattle.bytes_visits.proofs.figures.figures_of.Goals as goal

pub returns-in-BreakNotPlaceable : goal.returns-in-BreakNotPlaceable
returns-in-BreakNotPlaceable c =
    let e : c.args.kind ≡ BreakNotPlaceable = search rules in
    rw (e, fl-zero) c.three-in-BreakNotPlaceable.ensures

pub returns-in-CapacityExceeded : goal.returns-in-CapacityExceeded
unfolding fl
returns-in-CapacityExceeded c =
    let e : c.args.kind ≡ CapacityExceeded c.in-CapacityExceeded.load c.in-CapacityExceeded.capacity = search rules in
    rw (e, fl-zero, ← c.held-in-CapacityExceeded.ensures) c.three-in-CapacityExceeded.ensures

pub returns-in-MaxDistanceExceeded : goal.returns-in-MaxDistanceExceeded
returns-in-MaxDistanceExceeded c =
    let e : c.args.kind ≡ MaxDistanceExceeded c.in-MaxDistanceExceeded.distance c.in-MaxDistanceExceeded.max_distance = search rules in
    rw (e, fl-zero) c.three-in-MaxDistanceExceeded.ensures

pub returns-in-MaxDurationExceeded : goal.returns-in-MaxDurationExceeded
returns-in-MaxDurationExceeded c =
    let e : c.args.kind ≡ MaxDurationExceeded c.in-MaxDurationExceeded.duration c.in-MaxDurationExceeded.max_duration = search rules in
    rw (e, fl-zero) c.three-in-MaxDurationExceeded.ensures

pub returns-in-WheelchairsExceeded : goal.returns-in-WheelchairsExceeded
unfolding fl
returns-in-WheelchairsExceeded c =
    let e : c.args.kind ≡ WheelchairsExceeded c.in-WheelchairsExceeded.load c.in-WheelchairsExceeded.capacity = search rules in
    rw (e, fl-zero, ← c.held-in-WheelchairsExceeded.ensures) c.three-in-WheelchairsExceeded.ensures

pub returns-in-ClosedLeg : goal.returns-in-ClosedLeg
returns-in-ClosedLeg c =
    let e : c.args.kind ≡ ClosedLeg c.in-ClosedLeg.leg = search rules in
    rw (e, fl-zero, ← c.held-in-ClosedLeg.ensures) c.three-in-ClosedLeg.ensures
