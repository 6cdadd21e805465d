-- `fill::filled` meets its contract. The loop's invariant: the first bytes of the template, up to the loop's index, are put, with k numbers. Assumes nothing.
use Prim.Native.Nat.{◌+◌, ◌*◌, ◌≤◌}
use lib.ListN.{length, drop}
use Rattle.listing_lines.proofs.Putting.{Wrote}
use Rattle.templates.specs.Fill.{fill}
use Rattle.templates.proofs.fill.filled.Given as goal

abbrev pub invariant-loop-b : goal.invariant-loop-b
invariant-loop-b l =
    (l.k ≤ length l.numbers) × (l.end ≤ l.at + l.b-index + 20 * l.k) × Wrote (fill l.template l.numbers) (fill (drop l.b-index l.template) (drop l.k l.numbers)) l.at l.initial.out l.out l.end
