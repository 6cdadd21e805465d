-- `runs::ends_fall` meets its contract. Assumes nothing.
use mathlib.Core.Path.{◌≡◌}
use lib.ListN.{drop}
use Rattle.definitions.specs.Refusals.{ends_fall}
use Rattle.refuse_lists.proofs.runs.ends_fall.Given as goal

abbrev pub invariant-loop-e : goal.invariant-loop-e
invariant-loop-e l = ends_fall l.p (drop l.e-index l.ends) l.calls ≡ ends_fall 0 l.ends l.calls
