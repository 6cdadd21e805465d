-- `text::spaced` meets its contract. Assumes nothing.
use Rattle.std.proofs.Common.{arith}
use Rattle.listing_lines.proofs.Putting.{joined}
use Rattle.listing_lines.proofs.Digits.{decimal-short}
use Rattle.listing_lines.proofs.text.spaced.Goals as goal

pub decimal-requires : goal.decimal-requires
decimal-requires c =
    let w = c in
    omega (arith, w.word-end.ensures.next, w.word-end.auto.out, decimal-short w.args.n (omega arith))

pub returns : goal.returns
returns c =
    let d = c.decimal in
    let put = c in
    let w = put in
    let s = w in record { text = joined w.word-end.ensures d.ensures (omega (arith, w.word-end.ensures.next)); short = omega (arith, d.ensures.next, w.word-end.ensures.next, decimal-short s.args.n (omega arith)) }
