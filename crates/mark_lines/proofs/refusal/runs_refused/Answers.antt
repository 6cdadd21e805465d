-- `refusal::runs_refused` meets its contract. Assumes nothing.
use native.Mathlib.Omega.{arith}
use Rattle.listing_lines.proofs.Putting.{joined}
use Rattle.mark_lines.proofs.refusal.runs_refused.Goals as goal

pub returns : goal.returns
returns c =
    let reason = c in
    let numbered = reason in
    record { text = joined numbered.numbered-end.ensures.text reason.reason.ensures.text (omega arith); short = omega arith }
