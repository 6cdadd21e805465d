-- `runs::paste_moved` meets its contract. The loop's invariant: the first ends are moved, behind the first `at`. Assumes nothing.
use mathlib.Core.List.{◌++◌, map}
use lib.ListN.{take}
use Rattle.improve_runs.specs.RunLists.{shifted, Front}
use Rattle.improve_runs.proofs.runs.paste_moved.Given as goal

abbrev pub invariant-loop-k : goal.invariant-loop-k
invariant-loop-k l = Front (take l.at l.initial.to ++ take l.k (map (shifted 0 l.down) l.from)) l.to
