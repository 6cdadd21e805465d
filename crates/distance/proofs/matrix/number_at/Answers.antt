-- `matrix::number_at` meets its contract. Assumes nothing.
use mathlib.Core.Path.{◌∙◌}
use native.Mathlib.Omega.{arith}
use Rattle.distance.proofs.Ways.{no_row, no-column, past_end, inside}
use Rattle.distance.proofs.matrix.number_at.Goals as goal

pub returns-then-size-from : goal.returns-then-size-from
returns-then-size-from c =
    let a = c.args in
    c.infinity.ensures ∙ no_row a.table.now a.size a.from a.to c.if-size-from.true

pub returns-then-size-to : goal.returns-then-size-to
returns-then-size-to c =
    let a = c.args in
    c.infinity-then-size-to.ensures ∙ no-column a.table.now a.size a.from a.to c.if-size-to.true

pub returns-then-table-i : goal.returns-then-table-i
returns-then-table-i c =
    let reckoned = c in
    let a = reckoned.args in
    c.infinity-then-table-i.ensures ∙ past_end a.table.now a.size a.from a.to (omega arith)

pub returns : goal.returns
returns c =
    let reckoned = c in
    let a = reckoned.args in
    inside a.table.now a.size a.from a.to _ (omega arith) (omega arith) (omega arith)
