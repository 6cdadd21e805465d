-- `text::ended` meets its contract. Assumes nothing.
use Rattle.std.proofs.Common.{arith}
use Rattle.listing_lines.proofs.Putting.{joined}
use Rattle.listing_lines.proofs.text.ended.Goals as goal

pub returns : goal.returns
returns c =
    let w = c in
    let n = w in
    record { text = joined n.numbered-end.ensures.text w.word.ensures (omega arith); short = omega arith }
