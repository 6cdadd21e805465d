-- `verdict::run_words` meets its contract. Assumes nothing.
use native.Mathlib.Omega.{arith}
use Rattle.listing_lines.proofs.Putting.{joined-all}
use Rattle.mark_lines.proofs.verdict.run_words.Goals as goal

pub returns : goal.returns
returns c =
    let numbered3 = c in
    let numbered2 = numbered3 in
    let numbered = numbered2 in
    record { text = joined-all numbered.numbered-end.ensures.text numbered2.numbered-end-2.ensures.text numbered3.numbered.ensures.text (omega arith); short = omega arith }
