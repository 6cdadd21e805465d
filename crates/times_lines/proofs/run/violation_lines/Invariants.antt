-- `run::violation_lines` meets its contract. The loop's invariant: the lines of the first i violations are put. Assumes nothing.
use Prim.Native.Nat.{◌+◌, ◌*◌, ◌≤◌}
use Rattle.listing_lines.proofs.Putting.{Wrote}
use Rattle.times_lines.proofs.Turns.{violations_left}
use Rattle.times_lines.proofs.run.violation_lines.Given as goal

abbrev pub invariant-loop-violation : goal.invariant-loop-violation
invariant-loop-violation l =
    (l.end ≤ l.at + 150 * l.violation-index) × Wrote (violations_left l.n l.violation-items 0) (violations_left l.n l.violation-items l.violation-index) l.at l.initial.out l.out l.end
