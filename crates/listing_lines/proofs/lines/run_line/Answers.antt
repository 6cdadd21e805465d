-- `lines::run_line` meets its contract. Assumes nothing.
use Rattle.std.proofs.Common.{arith}
use Rattle.listing_lines.proofs.Putting.{joined, joined-all}
use Rattle.listing_lines.proofs.lines.run_line.Goals as goal

pub returns : goal.returns
returns c =
    let e = c in
    let r = e in
    let k = r in
    let w = k in
    let b = w.word-end.ensures.next in
    record { text = joined (joined-all w.word-end.ensures k.customers-end.ensures.text r.rest-end.ensures.text (omega arith)) e.word.ensures (omega arith); short = omega arith }
