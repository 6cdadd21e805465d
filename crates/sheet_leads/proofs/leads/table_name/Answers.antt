-- `leads::table_name` meets its contract. Assumes nothing.
use native.Mathlib.Omega.{arith}
use Rattle.listing_lines.proofs.Putting.{joined-all}
use Rattle.sheet_leads.proofs.leads.table_name.Goals as goal

pub returns : goal.returns
returns c =
    let b2 = c in
    let b7 = b2 in
    let b11 = b7 in
    record { text = joined-all b11.word-end.ensures b7.word-end-2.ensures b2.word.ensures (omega arith); short = omega arith }
