-- `lines::rest` meets its contract. Assumes nothing.
use Rattle.std.proofs.Common.{arith}
use Rattle.listing_lines.proofs.Putting.{nothing, joined}
use Rattle.listing_lines.proofs.Pieces.{rest-shown}
use Rattle.listing_lines.proofs.lines.rest.Goals as goal

pub returns-then-place-eq0 : goal.returns-then-place-eq0
returns-then-place-eq0 c =
    let a = c.args in
    record { text = rw c.if-place-eq0.true (nothing a.at a.out.now); short = omega arith }

pub returns : goal.returns
returns c =
    let s = c in
    let n = s in
    let i = n in
    let a = i.args in
    record { text = rw (rest-shown a.place a.start i.if-place-eq0.false) (joined n.numbered-end.ensures.text s.spaced.ensures.text (omega arith)); short = omega arith }
