-- `closing::count_line` meets its contract. Assumes nothing.
use native.Mathlib.Omega.{arith}
use Rattle.listing_lines.proofs.Putting.{joined}
use Rattle.test_records.proofs.closing.count_line.Goals as goal

pub returns : goal.returns
returns c =
    record { text = joined c.counts_text-end.ensures.text c.others_text.ensures.text (omega arith); short = omega arith }
