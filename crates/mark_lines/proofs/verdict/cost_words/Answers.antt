-- `verdict::cost_words` meets its contract. Assumes nothing.
use native.Mathlib.Omega.{arith}
use Rattle.listing_lines.proofs.Putting.{joined-all}
use Rattle.mark_lines.proofs.verdict.cost_words.Goals as goal

pub returns : goal.returns
returns c =
    let numbered3 = c in
    let whole-part3 = numbered3 in
    let numbered2 = whole-part3 in
    let whole-part2 = numbered2 in
    let numbered = whole-part2 in
    let whole_part = numbered in
    let first = rw whole_part.whole_part.ensures at numbered.numbered-end.ensures.text in
    let second = rw whole-part2.whole_part-2.ensures at numbered2.numbered-end-2.ensures.text in
    let third = rw whole-part3.whole_part-3.ensures at numbered3.numbered.ensures.text in
    record { text = joined-all first second third (omega arith); short = omega arith }
