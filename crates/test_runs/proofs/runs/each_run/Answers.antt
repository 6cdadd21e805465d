-- `runs::each_run` meets its contract. Assumes nothing.
use native.Mathlib.Omega.{arith}
use Rattle.test_runs.proofs.Turns.{ended, run-begins, run_ends, turn}
use Rattle.test_runs.proofs.runs.each_run.Goals as goal

pub loop-to-preserved : goal.loop-to-preserved
loop-to-preserved c =
    turn c.loop-to.invariant c.loop-to-test.true c.run_text-end.result c.run_text-end.ensures

pub returns : goal.returns
returns c = ended c.loop-to.invariant (omega arith)

pub offset_bounds-all-from : goal.offset_bounds-all-from
offset_bounds-all-from c =
    omega (arith, run-begins c.loop-to.invariant c.loop-to-test.true, run_ends c.loop-to.invariant c.loop-to-test.true, c.requires.all_len_bound.0)

pub slice_bounds-run_text-end : goal.slice_bounds-run_text-end
slice_bounds-run_text-end c = run_ends c.loop-to.invariant c.loop-to-test.true
