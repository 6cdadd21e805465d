-- `lines::customers` meets its contract. The loop's invariant: the customers passed are put. Assumes nothing.
use Rattle.std.proofs.Common.{◌+◌, drop, arith}
use Rattle.definitions.specs.Listing.{customers_text}
use Rattle.listing_lines.proofs.Putting.{begun, turn}
use Rattle.listing_lines.proofs.Pieces.{customers-more}
use Rattle.listing_lines.proofs.lines.customers.Goals as goal

pub loop-call-init : goal.loop-call-init
loop-call-init c =
    let a = c.args in
    (omega arith, begun (customers_text a.calls.now) a.at a.out.now (omega arith))

pub loop-call-preserved : goal.loop-call-preserved
loop-call-preserved c =
    let l = c.loop-call in
    let calls = c.args.calls.now in (
      omega arith,
      turn l.invariant.1 (customers_text (drop (l.call-index + 1) calls)) c.spaced-end.ensures.text (customers-more calls l.call-index (omega arith)) (omega arith),
    )
