-- `text::numbered` meets its contract. Assumes nothing.
use Rattle.std.proofs.Common.{arith}
use Rattle.listing_lines.proofs.Putting.{joined}
use Rattle.listing_lines.proofs.text.numbered.Goals as goal

pub returns : goal.returns
returns c =
    let s = c.spaced in
    let put = c in
    let w = put.word-end in
    record { text = joined w.ensures s.ensures.text (omega arith); short = omega arith }
