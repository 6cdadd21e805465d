-- `cells::read_back` meets its contract. The loop's invariant: what is still to be read from j, put in front of the tail that is written, is what is asked. Assumes nothing.
use lib.ListN.{get_or}
use Rattle.cut_theory.proofs.BackLaws.{Backing}
use Rattle.cut_table.proofs.cells.read_back.Given as goal

abbrev pub invariant-loop-j : goal.invariant-loop-j
invariant-loop-j l = Backing (λ k. get_or l.pred k 0) l.n l.ends l.at l.j

abbrev pub decreases-loop-j : goal.decreases-loop-j
decreases-loop-j l = l.j
