-- `verdict::other_words` meets its contract. Assumes nothing.
use native.Mathlib.Omega.{arith}
use Rattle.listing_lines.proofs.Putting.{joined-all}
use Rattle.mark_lines.proofs.verdict.other_words.Goals as goal

pub returns : goal.returns
returns c =
    let next-served = c in
    let word2 = next-served in
    let next-call = word2 in
    let word = next-call in
    let numbered = word in
    let index_of = numbered in
    let k = index_of.index_of-k.ensures in
    let given = rw k at next-call.next_call-end.ensures.text in
    let planned = rw k at next-served.next_served.ensures.text in
    let first = joined-all numbered.numbered-end.ensures.text word.word-end.ensures given (omega arith) in
    record { text = joined-all first word2.word-end-2.ensures planned (omega arith); short = omega arith }
