-- `runs::non_empty` meets its contract. The loop's invariant: of the first i runs, `Kept` says which ends are in. Assumes nothing.
use Prim.Native.Nat.{ℕ, ◌≤◌}
use mathlib.Core.List.{List}
use Rattle.improve_runs.specs.RunLists.{runs, runs_in, Sound}
use Rattle.improve_runs.proofs.Keeping.{Kept}
use Rattle.improve_runs.proofs.runs.non_empty.Given as goal

abbrev pub invariant-loop-end : goal.invariant-loop-end
invariant-loop-end l =
    (l.n ≤ l.end-index) × ((calls : List ℕ) (many : ℕ) → let r = runs calls l.ends many l.count in Sound r → Kept (runs_in r) l.end-index l.n l.prev l.kept)
