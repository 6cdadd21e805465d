-- `bad::bad_line` meets its contract. Assumes nothing.
use native.Mathlib.Omega.{arith}
use Rattle.listing_lines.proofs.Putting.{joined, joined-all}
use Rattle.mark_lines.proofs.bad.bad_line.Goals as goal

pub returns : goal.returns
returns c =
    let word3 = c in
    let word2 = word3 in
    let expected-words = word2 in
    let word = expected-words in
    let numbered2 = word in
    let numbered = numbered2 in
    let three = joined-all numbered.numbered-end.ensures.text numbered2.numbered-end-2.ensures.text word.word-end.ensures (omega arith) in
    let five = joined-all three expected-words.expected_words-end.ensures.text word2.word-end-2.ensures (omega arith) in
    record { text = joined five word3.word.ensures (omega arith); short = omega arith }
