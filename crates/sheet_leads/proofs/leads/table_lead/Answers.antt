-- `leads::table_lead` meets its contract. Assumes nothing.
use native.Mathlib.Omega.{arith}
use mathlib.Core.Path.{sym, ◌∙◌}
use borrow.Author.Tests.{eq-eqb}
use Rattle.listing_lines.proofs.Putting.{nothing}
use Rattle.sheet_leads.proofs.leads.table_lead.Goals as goal

pub returns : goal.returns
returns c =
    let b1 = c in
    let b2 = b1 in
    let b6 = b2 in
    let a = b6.args in record { text = rw (eq-eqb a.s.last.kind a.kind b2.if-s-kind.false, sym b1.row_ends.ensures ∙ c.if-row_ends.false) (nothing a.at a.out.now); short = omega arith }
