-- `runs::empty_run` meets its contract. Assumes nothing.
use mathlib.Core.Path.{◌≡◌}
use lib.ListN.{drop}
use Rattle.definitions.specs.Refusals.{empty_run}
use Rattle.refuse_lists.proofs.runs.empty_run.Given as goal

abbrev pub invariant-loop-e : goal.invariant-loop-e
invariant-loop-e l = empty_run l.p (drop l.e-index l.ends) ≡ empty_run 0 l.ends
