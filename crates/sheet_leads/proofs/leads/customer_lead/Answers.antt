-- `leads::customer_lead` meets its contract. Assumes nothing.
use native.Mathlib.Omega.{arith}
use Rattle.listing_lines.proofs.Putting.{joined}
use Rattle.sheet_leads.proofs.leads.customer_lead.Goals as goal

pub returns : goal.returns
returns c =
    let b2 = c in
    let b7 = b2 in
    let b8 = b7 in
    record { text = rw b8.own_number.ensures at (joined b7.numbered-end.ensures.text b2.word.ensures (omega arith)); short = omega arith }
