-- `lines::refusal_line` meets its contract. Assumes nothing.
use Rattle.std.proofs.Common.{arith}
use Rattle.definitions.specs.Listing.{text, spaced, end_of_line}
use Rattle.listing_lines.proofs.Putting.{joined-three}
use Rattle.listing_lines.proofs.lines.refusal_line.Goals as goal

pub returns : goal.returns
returns c =
    let e = c in
    let n = e in
    let s = n in
    record { text = joined-three n.numbered-end.ensures.text (text " at") (spaced s.args.index) end_of_line e.ended.ensures.text (omega arith); short = omega arith }
