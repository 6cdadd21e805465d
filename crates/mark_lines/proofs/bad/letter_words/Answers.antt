-- `bad::letter_words` meets its contract. Assumes nothing.
use native.Mathlib.Omega.{arith}
use borrow.Author.Tests.{ne_eqb}
use Rattle.listing_lines.proofs.Putting.{joined}
use Rattle.mark_lines.proofs.bad.letter_words.Goals as goal

pub returns : goal.returns
returns c =
    let word3 = c in
    let word2 = word3 in
    let if1 = word2 in
    let start = if1 in
    let l = start.args.letter in
    record { text = rw (ne_eqb l 32 if1.if-letter-eq32.false) (joined word2.word-end.ensures word3.word-2.ensures (omega arith)); short = omega arith }
