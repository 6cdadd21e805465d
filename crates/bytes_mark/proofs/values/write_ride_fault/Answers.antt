-- `values::write_ride_fault` meets its contract. Assumes nothing.
use mathlib.Core.Path.{◌≡◌}
use Rattle.whole.specs.Whole.{fl}
use Rattle.marker.specs.declared.verdict.Verdict.TheVariants.{BreakMissing, TooFar, TooLong}
use Rattle.bytes_mark.proofs.Verdicts.{written-by}
use borrow.Author.Rules.{rules}
use Rattle.bytes_mark.proofs.values.write_ride_fault.Goals as goal

pub returns-in-BreakMissing : goal.returns-in-BreakMissing
unfolding fl
returns-in-BreakMissing c =
    let e : c.args.v ≡ BreakMissing c.in-BreakMissing.run' c.in-BreakMissing.duration c.in-BreakMissing.earliest = search rules in
    written-by e c.args.values.now c.write_three.new.values c.write_three.ensures

pub returns-in-TooFar : goal.returns-in-TooFar
unfolding fl
returns-in-TooFar c =
    let e : c.args.v ≡ TooFar c.in-TooFar.run' c.in-TooFar.distance c.in-TooFar.limit = search rules in
    written-by e c.args.values.now c.write_three-in-TooFar.new.values c.write_three-in-TooFar.ensures

pub returns-in-TooLong : goal.returns-in-TooLong
unfolding fl
returns-in-TooLong c =
    let e : c.args.v ≡ TooLong c.in-TooLong.run' c.in-TooLong.duration c.in-TooLong.limit = search rules in
    written-by e c.args.values.now c.write_three-in-TooLong.new.values c.write_three-in-TooLong.ensures
