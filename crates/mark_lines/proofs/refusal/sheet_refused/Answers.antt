-- `refusal::sheet_refused` meets its contract. Assumes nothing.
use native.Mathlib.Omega.{arith}
use Rattle.listing_lines.proofs.Putting.{joined-all}
use Rattle.mark_lines.proofs.refusal.sheet_refused.Goals as goal

pub returns : goal.returns
returns c =
    let reason = c in
    let numbered2 = reason in
    let numbered = numbered2 in
    record { text = joined-all numbered.numbered-end.ensures.text numbered2.numbered-end-2.ensures.text reason.reason.ensures.text (omega arith); short = omega arith }
