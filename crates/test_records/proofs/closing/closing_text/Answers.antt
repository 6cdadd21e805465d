-- `closing::closing_text` meets its contract. Assumes nothing.
use native.Mathlib.Omega.{arith}
use Rattle.listing_lines.proofs.Putting.{joined}
use Rattle.test_records.proofs.closing.closing_text.Goals as goal

pub returns : goal.returns
returns c =
    record { text = joined c.first_line-end.ensures.text c.last_line.ensures.text (omega arith); short = omega arith }
