-- `verdict::verdict_text` meets its contract. Assumes nothing.
use native.Mathlib.Omega.{arith}
use Rattle.listing_lines.proofs.Putting.{joined-all}
use Rattle.mark_lines.proofs.verdict.verdict_text.Goals as goal

pub returns : goal.returns
returns c =
    let drops = c in
    let line = drops in
    let words = line in
    record { text = joined-all words.verdict_words-end.ensures.text line.word-end.ensures drops.drops_behind.ensures.text (omega arith); short = omega arith }
