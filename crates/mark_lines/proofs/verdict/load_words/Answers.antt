-- `verdict::load_words` meets its contract. Assumes nothing.
use native.Mathlib.Omega.{arith}
use Rattle.listing_lines.proofs.Putting.{joined}
use Rattle.mark_lines.proofs.verdict.load_words.Goals as goal

pub returns : goal.returns
returns c =
    let word = c in
    let run-words = word in
    record { text = joined run-words.run_words-end.ensures.text word.word.ensures (omega arith); short = omega arith }
