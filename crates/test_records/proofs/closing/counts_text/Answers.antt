-- `closing::counts_text` meets its contract. Assumes nothing.
use native.Mathlib.Omega.{arith}
use Rattle.listing_lines.proofs.Putting.{joined}
use Rattle.test_records.proofs.closing.counts_text.Goals as goal

pub returns : goal.returns
returns c =
    record { text = joined (joined (joined c.numbered-end.ensures.text c.numbered-end-2.ensures.text (omega arith)) c.numbered-end-3.ensures.text (omega arith)) c.word.ensures (omega arith); short = omega arith }
