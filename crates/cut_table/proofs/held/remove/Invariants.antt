-- `held::remove` meets its contract. The loop's invariant: the calls from `at` up to k are moved down by one. Assumes nothing.
use mathlib.Core.Path.{◌≡◌}
use lib.ListN.{length}
use Rattle.cut_theory.proofs.Moved.{Moved}
use Rattle.cut_table.proofs.held.remove.Given as goal

abbrev pub invariant-loop-k : goal.invariant-loop-k
invariant-loop-k l = (length l.list ≡ length l.initial.list) × Moved l.initial.list l.at l.k l.list
