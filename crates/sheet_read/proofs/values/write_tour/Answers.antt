-- `values::write_tour` meets its contract. Assumes nothing.
use native.Mathlib.Omega.{arith}
use Rattle.sheet_read.proofs.Writing.{turn, pass, place, ended}
use Rattle.sheet_read.proofs.Picking.{calls-picked}
use Rattle.sheet_read.proofs.values.write_tour.Goals as goal

pub loop-i-preserved-then-w-ne14 : goal.loop-i-preserved-then-w-ne14
loop-i-preserved-then-w-ne14 c = pass calls-picked c.loop-i.invariant _ (omega arith) c.word_at-w.ensures c.if-w-ne14.true

pub loop-i-preserved : goal.loop-i-preserved
loop-i-preserved c =
    let q = c.loop-i.invariant in
    let p = calls-picked in
    turn p q _ c.call_at.result (omega arith) c.word_at-w.ensures c.if-w-ne14.false (place p q c.if-n-out.false) c.call_at.ensures

pub returns : goal.returns
returns c =
    let d = ended calls-picked c.loop-i.invariant (omega arith) in
    record { written = d.holds; count = d.many }
