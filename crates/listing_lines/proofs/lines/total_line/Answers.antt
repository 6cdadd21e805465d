-- `lines::total_line` meets its contract. Assumes nothing.
use Rattle.std.proofs.Common.{length, arith}
use Rattle.definitions.specs.Listing.{text, spaced, end_of_line}
use Rattle.listing_lines.proofs.Putting.{joined_line}
use Rattle.listing_lines.proofs.lines.total_line.Goals as goal

pub returns : goal.returns
returns c =
    let d = c in
    let s = d in
    let m = s in
    let t = m in
    let known = t in
    let a = known.args in
    let served = spaced (length a.served.now) in
    let dropped = spaced (length a.dropped.now) in record {
      text = joined_line (text " cost") (spaced a.cost) (text " served") served (text " dropped") dropped end_of_line
          t.numbered-end.ensures.text m.numbered-end-2.ensures.text s.numbered-end-3.ensures.text d.ended.ensures.text (omega arith);
      short = omega arith;
    }
