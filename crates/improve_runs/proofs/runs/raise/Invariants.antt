-- `runs::raise` meets its contract. The loop's invariant: the ends passed are raised. Assumes nothing.
use mathlib.Core.Path.{◌≡◌}
use Rattle.improve_runs.proofs.Shifting.{raised_to}
use Rattle.improve_runs.proofs.runs.raise.Given as goal

abbrev pub invariant-loop-end : goal.invariant-loop-end
invariant-loop-end l = l.end-items ≡ raised_to l.initial.end-items l.end-index
