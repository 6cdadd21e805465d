-- `run::violation_lines` meets its contract. The loop's invariant: the lines of the first i violations are put. Assumes nothing.
use native.Mathlib.Omega.{arith}
use lib.ListN.{take, length-take}
use Rattle.listing_lines.proofs.Putting.{begun, turn}
use Rattle.times_lines.proofs.Turns.{violations_left, violations-more}
use Rattle.times_lines.proofs.run.violation_lines.Goals as goal

pub loop-violation-init : goal.loop-violation-init
loop-violation-init c =
    let a = c.args in
    (omega arith, begun (violations_left a.n (take a.found a.violations) 0) a.at a.out.now (omega arith))

pub loop-violation-preserved : goal.loop-violation-preserved
loop-violation-preserved c =
    let l = c.loop-violation in
    let a = c.args in
    let few = length-take a.found a.violations in
    (omega arith, turn l.invariant.1 _ c.violation_line-end.ensures.text (violations-more a.n (take a.found a.violations) l.violation-index _ c.loop-violation-test.true) (omega arith))
