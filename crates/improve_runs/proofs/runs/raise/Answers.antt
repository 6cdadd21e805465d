-- `runs::raise` meets its contract. The loop's invariant: the ends passed are raised. Assumes nothing.
use Rattle.improve_runs.proofs.Shifting.{raise-more}
use Rattle.improve_runs.proofs.runs.raise.Goals as goal

pub loop-end-preserved : goal.loop-end-preserved
loop-end-preserved c = raise-more _ c.loop-end.end-items c.loop-end.end-index c.loop-end.invariant c.loop-end-test.true
