-- `leads::tour_lead` meets its contract. Assumes nothing.
use native.Mathlib.Omega.{arith}
use borrow.Author.Tests.{eq-eqb}
use Rattle.listing_lines.proofs.Putting.{nothing}
use Rattle.sheet_leads.proofs.leads.tour_lead.Goals as goal

pub returns-then-s-eq14 : goal.returns-then-s-eq14
returns-then-s-eq14 c =
    let b3 = c in
    let a = b3.args in record { text = rw (eq-eqb a.s.last.kind 0xE c.if-s-eq14.true) (nothing a.at a.out.now); short = omega arith }
