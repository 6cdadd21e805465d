-- `matrix::number_wide` meets its contract: the quotient says whether the row begins in the table. Assumes nothing.
use mathlib.Core.Path.{◌∙◌}
use native.Mathlib.Omega.{arith}
use lib.ListN.{length}
use Rattle.distance.proofs.Ways.{past_end, inside, row_in, row_out}
use Rattle.distance.proofs.matrix.number_wide.Goals as goal

pub returns-then-rows-from : goal.returns-then-rows-from
returns-then-rows-from c =
    let s = c in
    let a = s.args in
    c.infinity.ensures ∙ past_end a.table.now a.size a.from a.to (omega (arith, row_out (length a.table.now) a.size a.from s.requires.from_lt_size c.if-rows-from.true))

pub returns-then-rest-to : goal.returns-then-rest-to
returns-then-rest-to c =
    let s = c in
    let a = s.args in
    c.infinity-then-rest-to.ensures ∙ past_end a.table.now a.size a.from a.to (omega (arith, row_in (length a.table.now) a.size a.from s.requires.from_lt_size c.if-rows-from.false))

pub returns : goal.returns
returns c =
    let s = c in
    let a = s.args in
    inside a.table.now a.size a.from a.to _ s.requires.from_lt_size s.requires.to_lt_size (omega arith)
