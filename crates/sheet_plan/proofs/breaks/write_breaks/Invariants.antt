-- `breaks::write_breaks` meets its contract. The loop's invariant: the breaks of the first k runs are written. Assumes nothing.
use Rattle.evaluation.specs.Records.{lent, limits_of}
use Rattle.sheet_plan.specs.Breaks.{break_by}
use Rattle.sheet_plan.proofs.BreakTurns.{break_lists, BreaksTo}
use Rattle.sheet_plan.proofs.breaks.write_breaks.Given as goal

abbrev pub invariant-loop-k : goal.invariant-loop-k
invariant-loop-k l =
    BreaksTo (break_by (lent l.customers l.distances l.times l.size) (limits_of l.limits) l.placement) l.calls l.ends
    (break_lists l.initial.places l.initial.starts) (break_lists l.places l.starts) l.from l.k
