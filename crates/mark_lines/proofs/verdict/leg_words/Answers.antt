-- `verdict::leg_words` meets its contract. Assumes nothing.
use native.Mathlib.Omega.{arith}
use Rattle.listing_lines.proofs.Putting.{joined-all}
use Rattle.mark_lines.proofs.verdict.leg_words.Goals as goal

pub returns : goal.returns
returns c =
    let word = c in
    let numbered2 = word in
    let numbered = numbered2 in
    record { text = joined-all numbered.numbered-end.ensures.text numbered2.numbered-end-2.ensures.text word.word.ensures (omega arith); short = omega arith }
