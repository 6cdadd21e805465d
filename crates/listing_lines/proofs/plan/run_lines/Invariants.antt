-- `plan::run_lines` meets its contract. The loop's invariant: the lines of the first k runs are put. Assumes nothing.
use Rattle.listing_lines.proofs.RunTurns.{run_list, RunsTo}
use Rattle.listing_lines.proofs.plan.run_lines.Given as goal

abbrev pub invariant-loop-k : goal.invariant-loop-k
invariant-loop-k l = RunsTo (run_list l.calls l.ends l.places l.starts) l.at l.initial.out l.out l.end l.from l.k
