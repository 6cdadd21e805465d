-- `plan::drop_lines` meets its contract. The loop's invariant: the lines of the dropped calls passed are put. Assumes nothing.
use Rattle.std.proofs.Common.{◌+◌, drop, arith}
use Rattle.definitions.specs.Listing.{drop_lines}
use Rattle.listing_lines.proofs.Putting.{begun, turn}
use Rattle.listing_lines.proofs.Pieces.{drops-more}
use Rattle.listing_lines.proofs.plan.drop_lines.Goals as goal

pub loop-position-init : goal.loop-position-init
loop-position-init c =
    let a = c.args in
    (omega arith, begun (drop_lines a.tour.now a.dropped.now) a.at a.out.now (omega arith))

pub loop-position-preserved : goal.loop-position-preserved
loop-position-preserved c =
    let l = c.loop-position in
    let tour = c.args.tour.now in
    let dropped = c.args.dropped.now in (
      omega arith,
      turn l.invariant.1 (drop_lines tour (drop (l.position-index + 1) dropped)) c.drop_line-end.ensures.text
          (drops-more tour dropped l.position-index c.call_at.result (omega arith) c.call_at.ensures) (omega arith),
    )
