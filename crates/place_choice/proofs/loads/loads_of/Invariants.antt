-- `loads::loads_of` meets its contract. The loop's invariant: the loads of the first k runs are in. Assumes nothing.
use Prim.Native.Nat.{◌≤◌}
use mathlib.Core.Path.{◌≡◌}
use Rattle.evaluation.specs.Tables.{asked_f}
use Rattle.improve_runs.specs.RunLists.{start_in, runs, runs_in}
use Rattle.place_choice.proofs.Loading.{LoadedTo}
use Rattle.place_choice.proofs.loads.loads_of.Given as goal

abbrev pub invariant-loop-k : goal.invariant-loop-k
invariant-loop-k l = (l.k ≤ l.count) × (l.from ≡ start_in l.ends l.k) × LoadedTo (asked_f l.demands) (runs_in (runs l.calls l.ends l.many l.count)) l.loads l.k
