-- `main` meets its contract: an answer more is one nearer to the most, and the tally is still that of a run. Assumes nothing.
use native.Mathlib.Omega.{arith}
use Rattle.test_records.proofs.Counting.{answers-more, run_on}
use Rattle.test_replay.proofs.main.Goals as goal

pub loop-tally-smaller : goal.loop-tally-smaller
loop-tally-smaller c =
    let l = c.loop-tally in
    omega (arith, answers-more c.counted-tally.result l.tally l.last c.counted-tally.ensures, c.loop-tally-test.true)

pub loop-tally-preserved : goal.loop-tally-preserved
loop-tally-preserved c =
    let l = c.loop-tally in
    rw c.counted-tally.ensures (run_on l.tally l.last l.invariant c.loop-tally-test.true)
