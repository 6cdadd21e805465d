-- `lines::customers` meets its contract. The loop's invariant: the customers passed are put. Assumes nothing.
use Rattle.std.proofs.Common.{◌+◌, ◌*◌, ◌≤◌, drop}
use Rattle.definitions.specs.Listing.{customers_text}
use Rattle.listing_lines.proofs.Putting.{Wrote}
use Rattle.listing_lines.proofs.lines.customers.Given as goal

abbrev pub invariant-loop-call : goal.invariant-loop-call
invariant-loop-call l =
    (l.end ≤ l.at + 21 * l.call-index) × Wrote (customers_text l.calls) (customers_text (drop l.call-index l.calls)) l.at l.initial.out l.out l.end
