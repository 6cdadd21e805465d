-- `verdict::drops_behind` meets its contract. Assumes nothing.
use native.Mathlib.Omega.{arith}
use Rattle.listing_lines.proofs.Putting.{nothing}
use Rattle.mark_lines.proofs.Shown.{put_as, no-drops}
use Rattle.mark_lines.proofs.verdict.drops_behind.Goals as goal

pub returns : goal.returns
returns c =
    let number = c in
    let a = number.args in
    record { text = put_as (no-drops a.tour.now a.dropped.now a.v number.number_of.result number.number_of.ensures c.if-number_of-eq1.false) (nothing a.at a.out.now); short = omega arith }
