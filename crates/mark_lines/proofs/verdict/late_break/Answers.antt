-- `verdict::late_break` meets its contract. Assumes nothing.
use native.Mathlib.Omega.{arith}
use Rattle.listing_lines.proofs.Putting.{joined-all}
use Rattle.mark_lines.proofs.verdict.late_break.Goals as goal

pub returns : goal.returns
returns c =
    let numbered2 = c in
    let whole-part2 = numbered2 in
    let numbered = whole-part2 in
    let whole_part = numbered in
    let call-words = whole_part in
    let first = rw whole_part.whole_part.ensures at numbered.numbered-end.ensures.text in
    let second = rw whole-part2.whole_part-2.ensures at numbered2.numbered.ensures.text in
    record { text = joined-all call-words.call_words-end.ensures.text first second (omega arith); short = omega arith }
