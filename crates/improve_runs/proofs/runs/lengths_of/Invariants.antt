-- `runs::lengths_of` meets its contract. The loop's invariant is `Measuring`: the lengths of the first k runs are in. Assumes nothing.
use Rattle.improve_runs.proofs.Keeping.{Measuring}
use Rattle.improve_runs.proofs.runs.lengths_of.Given as goal

abbrev pub invariant-loop-k : goal.invariant-loop-k
invariant-loop-k l = Measuring l.ends l.k l.prev l.lengths
