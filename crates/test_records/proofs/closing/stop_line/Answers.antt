-- `closing::stop_line` meets its contract. Assumes nothing.
use native.Mathlib.Omega.{arith}
use Rattle.listing_lines.proofs.Putting.{joined}
use Rattle.test_records.proofs.closing.stop_line.Goals as goal

pub returns : goal.returns
returns c =
    record { text = joined c.numbered-end.ensures.text c.word.ensures (omega arith); short = omega arith }
