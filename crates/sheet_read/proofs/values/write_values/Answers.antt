-- `values::write_values` meets its contract. Assumes nothing.
use native.Mathlib.Omega.{arith}
use Rattle.sheet_read.proofs.Writing.{turn, place}
use Rattle.sheet_read.proofs.Picking.{floats-picked}
use Rattle.sheet_read.proofs.values.write_values.Goals as goal

pub loop-i-preserved : goal.loop-i-preserved
loop-i-preserved c =
    let q = c.loop-i.invariant in
    let p = floats-picked c.args.kind in
    turn p q _ c.number_at.result (omega arith) c.word_at-w.ensures c.if-w-kind.false (place p q c.if-n-out.false) c.number_at.ensures
