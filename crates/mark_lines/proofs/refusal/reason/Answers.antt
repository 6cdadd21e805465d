-- `refusal::reason` meets its contract. Assumes nothing.
use native.Mathlib.Omega.{arith}
use Rattle.listing_lines.proofs.Putting.{joined-all}
use Rattle.mark_lines.proofs.refusal.reason.Goals as goal

pub returns : goal.returns
returns c =
    let word2 = c in
    let meaning = word2 in
    let word = meaning in
    record { text = joined-all word.word-end.ensures meaning.meaning-end.ensures.text word2.word.ensures (omega arith); short = omega arith }
