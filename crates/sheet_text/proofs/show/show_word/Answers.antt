-- `show::show_word` meets its contract. Assumes nothing.
use native.Mathlib.Omega.{arith}
use borrow.Author.Tests.{eq-eqb, ne_eqb}
use Rattle.definitions.specs.Listing.{text}
use Rattle.texts.specs.SheetText.{number_text}
use Rattle.listing_lines.proofs.Putting.{joined, joined-two}
use Rattle.sheet_text.proofs.show.show_word.Goals as goal

pub returns-then-w-eq15 : goal.returns-then-w-eq15
returns-then-w-eq15 c =
    let b2 = c in
    let b7 = b2 in
    let b9 = b7 in
    let b12 = b9 in
    let k = b12.args.w.kind in record { text = rw (eq-eqb k 0xF b9.if-w-eq15.true) (joined b7.tour_lead-end.ensures.text b2.word.ensures (omega arith)); short = omega arith }

pub returns : goal.returns
returns c =
    let b2 = c in
    let b6 = b2 in
    let b8 = b6 in
    let b11 = b8 in
    let w = b11.args.w in record { text = rw (ne_eqb w.kind 0xF b8.if-w-eq15.false) (joined-two b6.lead-end.ensures.text (text " ") (number_text w.value) b2.number.ensures.text (omega arith)); short = omega arith }
