-- `breaks::write_breaks` meets its contract. The loop's invariant: the breaks of the first k runs are written. Assumes nothing.
use native.Mathlib.Omega.{arith}
use Rattle.evaluation.specs.Records.{taken_of}
use Rattle.listing_lines.proofs.RunWalk.{begins, inside}
use Rattle.sheet_plan.proofs.BreakTurns.{turn, places-ended, starts-ended}
use Rattle.sheet_plan.proofs.breaks.write_breaks.Goals as goal

pub offset_bounds-calls-from : goal.offset_bounds-calls-from
offset_bounds-calls-from c = omega (arith, begins c.loop-k.invariant.at-run)

pub slice_bounds-break_by-end : goal.slice_bounds-break_by-end
slice_bounds-break_by-end c = inside c.loop-k.invariant.at-run c.loop-k-test.true

pub loop-k-preserved : goal.loop-k-preserved
loop-k-preserved c =
    let b = c in
    let t = b in
    let l = t in
    let known = l in
    let room = known.requires.ends_in_bounds in
    turn l.loop-k.invariant t.loop-k-test.true room (taken_of b.break_by-b.result) b.break_by-b.ensures c.start_or_zero.result c.start_or_zero.ensures

pub returns : goal.returns
returns c = let q = c.loop-k.invariant in record { places = places-ended q (omega arith); starts = starts-ended q (omega arith) }
