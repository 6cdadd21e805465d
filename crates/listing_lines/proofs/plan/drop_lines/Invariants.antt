-- `plan::drop_lines` meets its contract. The loop's invariant: the lines of the dropped calls passed are put. Assumes nothing.
use Rattle.std.proofs.Common.{◌+◌, ◌*◌, ◌≤◌, drop}
use Rattle.definitions.specs.Listing.{drop_lines}
use Rattle.listing_lines.proofs.Putting.{Wrote}
use Rattle.listing_lines.proofs.plan.drop_lines.Given as goal

abbrev pub invariant-loop-position : goal.invariant-loop-position
invariant-loop-position l =
    (l.end ≤ l.at + 26 * l.position-index) × Wrote (drop_lines l.tour l.dropped) (drop_lines l.tour (drop l.position-index l.dropped)) l.at l.initial.out l.out l.end
